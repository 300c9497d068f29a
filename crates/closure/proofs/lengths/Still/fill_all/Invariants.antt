-- `closure::lengths::Still::fill_all` meets its contract: the number of words that are 0 falls with each sweep but the last. Assumes nothing.
use mathlib.Core.Path.{◌≡◌}
use lib.ListN.{drop}
use Rattle.closure.specs.Sizes.{count}
use Rattle.closure.specs.Fills.{KnownLengths, zeros}
use Rattle.closure.proofs.lengths.Still.fill_all.Given as goal

abbrev pub invariant-loop : goal.invariant-loop
invariant-loop l = record {
  known : KnownLengths l.fn.self.grammar.size l.fn.self.grammar.rules.now l.fn.self.table.now l.lengths;
  kept : drop (count l.fn.self.grammar.size) l.lengths ≡ drop (count l.fn.self.grammar.size) l.fn.lengths;
}

abbrev pub decreases-loop : goal.decreases-loop
decreases-loop l = zeros l.lengths (count l.fn.self.grammar.size)
