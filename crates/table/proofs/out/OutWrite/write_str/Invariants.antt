-- `table::out`: while a text is taken, what is full of the buffer is no longer than it. Assumes nothing.
use Rattle.std.specs.Prelude.{◌≤◌}
use Rattle.table.proofs.out.OutWrite.write_str.Given as goal

abbrev pub invariant-loop-b : goal.invariant-loop-b
invariant-loop-b l = l.len ≤ 65536
