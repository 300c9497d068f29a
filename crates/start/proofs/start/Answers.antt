-- `start::start` meets its contract: both checks are good at the end. Assumes nothing.
use mathlib.Core.Path.{sym, ◌∙◌}
use Rattle.words.proofs.Refusals.{and_next}
use Rattle.start.specs.Calls.{start_check}
use Rattle.start.proofs.Filling.{start_done}
use Rattle.start.proofs.start.Goals as goal

pub returns : goal.returns
unfolding start_check
returns c = start_done _ _ _ _ c.begin.ensures (and_next (sym c.in_ok-check.ensures) ∙ sym (rw c.cells.ensures at c.in_ok-room.ensures))
