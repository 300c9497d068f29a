-- `rows::enter_rule` meets its contract: the edges below e are entered. Assumes nothing.
use Rattle.rows.specs.Rounds.{Entered}
use Rattle.rows.proofs.Enters.{EdgesBelow}
use Rattle.rows.proofs.enter_rule.Given as goal

abbrev pub invariant-loop-e : goal.invariant-loop-e
invariant-loop-e l = Entered l.lists.numbers.nodes l.lists.rules.now l.lists.edges.now (EdgesBelow l.lists.numbers.nodes l.lists.rules.now l.lists.edges.now l.r l.e) l.initial.rows l.rows
