-- `text::pairs::pairs` meets its contract: the lines of the cells before (i, j) are written. Assumes nothing.
use Prim.Native.Nat.{◌+◌, ◌*◌}
use Rattle.text.specs.Queried.{checked_numbers}
use Rattle.text.specs.Penned.{LinesPenned}
use Rattle.text.proofs.pairs.pairs.Given as goal

abbrev pub invariant-loop-i : goal.invariant-loop-i
invariant-loop-i l = LinesPenned l.query (l.i * (checked_numbers l.query.checked).nodes) l.fn.pen l.pen l.pairs

abbrev pub invariant-loop-j : goal.invariant-loop-j
invariant-loop-j l = LinesPenned l.query (l.i * (checked_numbers l.query.checked).nodes + l.j) l.fn.pen l.pen l.pairs
