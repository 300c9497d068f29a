-- `closure::passes::Grammar::settle` meets its contract: the loop's invariant is that some passes were made; the total of the words falls. Assumes nothing.
use mathlib.Core.Path.{◌≡◌}
use lib.ListN.{length}
use Rattle.meaning.specs.Table.{total}
use Rattle.closure.specs.Sizes.{count}
use Rattle.closure.proofs.Swept.{Passing}
use Rattle.closure.proofs.passes.Grammar.settle.Given as goal

abbrev pub invariant-loop : goal.invariant-loop
invariant-loop l = Passing l.fn.self.size l.fn.self.rules.now l.initial.table l.table × (length l.table ≡ length l.initial.table)

abbrev pub decreases-loop : goal.decreases-loop
decreases-loop l = total l.table (count l.fn.self.size)
