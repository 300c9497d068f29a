-- `rows::union` meets its contract: `row` lacks only the rows of the bits still in `left`, which fall. Assumes nothing.
use Rattle.rows.proofs.Choices.{Partly}
use Rattle.rows.proofs.union.Given as goal

abbrev pub invariant-loop-left : goal.invariant-loop-left
invariant-loop-left l = Partly l.rows l.base l.chosen l.row l.left

abbrev pub decreases-loop-left : goal.decreases-loop-left
decreases-loop-left l = l.left
