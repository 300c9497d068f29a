-- `closure::PairRule::row` meets its contract: the loop's invariant is that the first j steps were taken, and that the left side stays.
-- Assumes nothing.
use mathlib.Core.Path.{◌≡◌}
use lib.ListN.{get_or}
use Rattle.std.specs.declared.result.Result.TheVariants.{Ok}
use Rattle.meaning.specs.Table.{cell}
use Rattle.closure.specs.Passes.{row_steps, Swept}
use Rattle.closure.proofs.PairRule.row.Given as goal

abbrev pub invariant-loop-j : goal.invariant-loop-j
invariant-loop-j l = record {
  swept : Swept l.fn.self.size (row_steps l.fn.self l.fn.i l.fn.k l.j) l.initial.table l.table (Ok l.moved);
  left : get_or l.table (cell l.fn.self.size.nodes l.fn.self.left l.fn.i l.fn.k) 0 ≡ l.fn.left.word;
}
