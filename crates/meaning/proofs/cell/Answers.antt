-- `meaning::cell` meets its contract. Assumes nothing.
use mathlib.Core.Path.{refl}
use Prim.Native.Nat.{◌+◌, ◌*◌, ◌<◌}
use native.Mathlib.Omega.{arith}
use Rattle.meaning.specs.Table.{cell}
use Rattle.meaning.proofs.Records.{row_small, cell_small}
use Rattle.meaning.proofs.cell.Goals.{Start}
use Rattle.meaning.proofs.cell.Goals as goal

-- the row's number and the cell's number, as far below 2^64 as they are
row : (c : Start) → c.args.a * c.args.nodes + c.args.i < 4294901761
row c = row_small _ _ _ c.ranges.nodes.fits c.ranges.a.fits c.ranges.i.fits

whole : (c : Start) → (c.args.a * c.args.nodes + c.args.i) * c.args.nodes + c.args.j < 281474976710656
whole c = cell_small _ _ _ c.ranges.nodes.fits (row c) c.ranges.j.fits

pub overflow_mul-result : goal.overflow_mul-result
overflow_mul-result c = omega (arith, row (goal.at.overflow_mul-result c).Start)

pub overflow_add-result : goal.overflow_add-result
overflow_add-result c = omega (arith, row (goal.at.overflow_add-result c).Start)

pub overflow_mul-result-2 : goal.overflow_mul-result-2
overflow_mul-result-2 c = omega (arith, whole (goal.at.overflow_mul-result-2 c).Start)

pub overflow_add-result-2 : goal.overflow_add-result-2
overflow_add-result-2 c = omega (arith, whole (goal.at.overflow_add-result-2 c).Start)

pub returns : goal.returns
unfolding cell
returns c = refl
