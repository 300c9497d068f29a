-- `closure::PairRule::steps` meets its contract: the loop's invariant is that the steps from a node below i were taken. Assumes nothing.
use Rattle.std.specs.declared.result.Result.TheVariants.{Ok}
use Rattle.closure.specs.Passes.{pair_steps, Swept}
use Rattle.closure.proofs.PairRule.steps.Given as goal

abbrev pub invariant-loop-i : goal.invariant-loop-i
invariant-loop-i l = Swept l.fn.self.size (pair_steps l.fn.self l.fn.self.size.nodes l.i) l.initial.table l.table (Ok l.moved)
