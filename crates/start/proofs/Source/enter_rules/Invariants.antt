-- `start::Source::enter_rules` meets its contract: the rules below r are entered. Assumes nothing.
use mathlib.Core.Path.{◌≡◌}
use Rattle.start.specs.Entering.{rules_in}
use Rattle.start.proofs.Source.enter_rules.Given as goal

abbrev pub invariant-loop-r : goal.invariant-loop-r
invariant-loop-r l = l.table ≡ rules_in l.self.nodes l.self.rules.now l.self.edges.now l.initial.table l.r
