-- `rows::join_rule` meets its contract: the nodes below i are worked, and `changed` says how the rows went. Assumes nothing.
use Rattle.rows.specs.Rounds.{Worked}
use Rattle.rows.proofs.Works.{Upto}
use Rattle.rows.proofs.join_rule.Given as goal

abbrev pub invariant-loop-i : goal.invariant-loop-i
invariant-loop-i l = Worked l.n l.lists.rules.now (Upto l.a l.b l.c l.i) l.initial.rows l.changed l.rows
