-- `start::Source::enter_rule` meets its contract: the edges below e are entered. Assumes nothing.
use mathlib.Core.Path.{◌≡◌}
use Rattle.start.specs.Entering.{edges_in}
use Rattle.start.proofs.Source.enter_rule.Given as goal

abbrev pub invariant-loop-e : goal.invariant-loop-e
invariant-loop-e l = l.table ≡ edges_in l.self.nodes l.self.edges.now l.head l.label l.r l.initial.table l.e
