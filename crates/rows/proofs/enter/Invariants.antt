-- `rows::enter` meets its contract: the rules below r are entered. Assumes nothing.
use Rattle.rows.specs.Rounds.{Entered}
use Rattle.rows.proofs.Enters.{RulesBelow}
use Rattle.rows.proofs.enter.Given as goal

abbrev pub invariant-loop-r : goal.invariant-loop-r
invariant-loop-r l = Entered l.lists.numbers.nodes l.lists.rules.now l.lists.edges.now (RulesBelow l.lists.numbers.nodes l.lists.rules.now l.lists.edges.now l.r) l.initial.rows l.rows
