-- `rows::round` meets its contract: the rules below r are worked, and `changing` says how the rows went. Assumes nothing.
use Rattle.rows.specs.Rounds.{Worked}
use Rattle.rows.proofs.Works.{Below}
use Rattle.rows.proofs.round.Given as goal

abbrev pub invariant-loop-r : goal.invariant-loop-r
invariant-loop-r l = Worked l.lists.numbers.nodes l.lists.rules.now (Below l.lists.numbers.nodes l.lists.rules.now l.r) l.initial.rows l.changing l.rows
