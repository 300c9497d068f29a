-- `step::at_cells` meets its contract: the cells' check, then the key taken. Assumes nothing.
use mathlib.Core.Path.{sym, ◌∙◌}
use native.Mathlib.Omega.{arith}
use Rattle.words.proofs.Refusals.{handed_on}
use Rattle.step.proofs.Order.{cells_stop, cells_next}
use Rattle.step.proofs.at_cells.Goals as goal

pub returns-in_err-usable_check : goal.returns-in_err-usable_check
returns-in_err-usable_check c = λ s e.
    rw (handed_on _ c.from_residual.ensures.1) (sym (cells_stop _ _ s _ _ (rw e at (sym c.in_err-usable_check.ensures))))

pub returns : goal.returns
returns c = λ s e.
    c.take.ensures
    ∙ rw (c.candidate.ensures, c.key_at-left.ensures, c.key_at-right.ensures, e)
    (sym (cells_next _ _ s _ (rw e at (sym c.in_ok-usable_check.ensures)) (grind arith)))
