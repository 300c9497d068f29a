-- `step::step` meets its contract: what a check refuses leaves the table, and after the last one the cells' part is the rest.
-- Assumes nothing.
use mathlib.Core.Path.{◌≡◌, sym, ◌∙◌}
use native.Mathlib.Omega.{arith}
use Rattle.words.proofs.Refusals.{refusing, and_stop, handed_on}
use Rattle.words.specs.Refusals.{Good}
use Rattle.lists.specs.Lists.{lists_check}
use Rattle.step.specs.Calls.{ask_check}
use Rattle.step.proofs.Order.{step_refused, step_next}
use Rattle.step.proofs.step.Goals.{In_ok-lists}
use Rattle.step.proofs.step.Goals as goal

-- the lists are accepted here
passed : (c : In_ok-lists) → let a = c.args in lists_check a.numbers a.rules.now a.edges.now ≡ Good
passed c = let n = c.in_ok-lists.ensures.ok in rw (← n.0, ← n.1.0, ← n.1.1) c.in_ok-lists.lists.passed

pub returns-in_err-lists : goal.returns-in_err-lists
unfolding ask_check
returns-in_err-lists c = step_refused _ _ _ _ _ _ _ _ _ (handed_on _ c.from_residual.ensures.1) (and_stop _ c.in_err-lists.ensures.err)

pub returns-in_err-argument_check : goal.returns-in_err-argument_check
unfolding ask_check
returns-in_err-argument_check c =
    let p = passed (goal.at.returns-in_err-argument_check c).In_ok-lists in
    step_refused _ _ _ _ _ _ _ _ _ (handed_on _ c.from_residual-in_err-argument_check.ensures.1) (grind (arith, refusing, p))

pub returns-in_err-room : goal.returns-in_err-room
unfolding ask_check
returns-in_err-room c =
    let p = passed (goal.at.returns-in_err-room c).In_ok-lists in
    step_refused _ _ _ _ _ _ _ _ _ (handed_on _ c.from_residual-in_err-room.ensures.1) (grind (arith, refusing, p))

pub returns : goal.returns
unfolding ask_check
returns c =
    let p = passed (goal.at.returns c).In_ok-lists in
    let n = c.in_ok-lists.ensures.ok in
    c.at_cells.ensures _ (c.cells_for.ensures ∙ rw (n.0, n.1.0)) ∙ sym (step_next _ _ _ _ _ _ _ _ (grind (arith, refusing, p)))
