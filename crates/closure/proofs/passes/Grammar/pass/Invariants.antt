-- `closure::passes::Grammar::pass` meets its contract: the loop's invariant is that the steps of the rules below r were taken. Assumes nothing.
use Rattle.std.specs.declared.result.Result.TheVariants.{Ok}
use Rattle.meaning.specs.Passes.{each, rule_steps}
use Rattle.closure.specs.Passes.{Swept}
use Rattle.closure.proofs.passes.Grammar.pass.Given as goal

abbrev pub invariant-loop-r : goal.invariant-loop-r
invariant-loop-r l = Swept l.fn.self.size (each l.r (rule_steps l.fn.self.rules.now l.fn.self.size.nodes)) l.initial.table l.table (Ok l.moved)
