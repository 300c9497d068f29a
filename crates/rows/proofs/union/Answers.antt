-- `rows::union` meets its contract: `row` lacks only the rows of the bits still in `left`, which fall. Assumes nothing.
use Prim.Native.Nat.{◌+◌, ◌-◌, ◌<◌}
use native.Mathlib.Omega.{arith}
use lib.ListN.{length}
use lib.Bits.{and_le_r}
use lib.Count.{count_trailing_zeros, trailing_le}
use Rattle.rows.proofs.Choices.{partly_none, partly_lowest, partly_more, partly_all}
use Rattle.rows.proofs.union.Goals.{In-loop-left}
use Rattle.rows.proofs.union.Goals as goal

pub loop-left-init : goal.loop-left-init
loop-left-init c = partly_none _ _ _ (omega arith)

pub overflow_cast-k : goal.overflow_cast-k
overflow_cast-k c = omega (arith, trailing_le 64 c.loop-left.left)

-- the lowest bit left chooses a row that is there
inside : (c : In-loop-left)
    → c.args.base + count_trailing_zeros 64 c.loop-left.left < length c.args.rows.now
inside c = c.requires _ (partly_lowest _ _ _ c.loop-left-test.true c.loop-left.invariant)

pub overflow_add-row : goal.overflow_add-row
overflow_add-row c = omega (arith, inside (goal.at.overflow_add-row c).In-loop-left)

pub offset_bounds-rows-base : goal.offset_bounds-rows-base
offset_bounds-rows-base c = omega (arith, inside (goal.at.offset_bounds-rows-base c).In-loop-left)

pub bounds-rows-base : goal.bounds-rows-base
bounds-rows-base c = inside (goal.at.bounds-rows-base c).In-loop-left

pub loop-left-smaller : goal.loop-left-smaller
loop-left-smaller c = omega (arith, and_le_r c.loop-left.left (c.loop-left.left - 1))

pub loop-left-preserved : goal.loop-left-preserved
loop-left-preserved c = partly_more _ _ _ c.loop-left-test.true c.loop-left.invariant

pub returns : goal.returns
returns c = partly_all _ _ _ (rw c.loop-left-test.false at c.loop-left.invariant)
