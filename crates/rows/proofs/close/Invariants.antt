-- `rows::close` meets its contract: a round that changes something narrows the gap to full rows. Assumes nothing.
use Rattle.rows.specs.Rounds.{RowsGrown, PairStep}
use Rattle.rows.proofs.Works.{gap}
use Rattle.rows.proofs.close.Given as goal

abbrev pub invariant-loop : goal.invariant-loop
invariant-loop l = RowsGrown (PairStep l.lists.numbers.nodes l.lists.rules.now) l.initial.rows l.rows

abbrev pub decreases-loop : goal.decreases-loop
decreases-loop l = gap l.rows
