-- `closure::PairRule::node` meets its contract: the loop's invariant is that the steps with a middle below k were taken. Assumes nothing.
use Rattle.std.specs.declared.result.Result.TheVariants.{Ok}
use Rattle.closure.specs.Passes.{node_steps, Swept}
use Rattle.closure.proofs.PairRule.node.Given as goal

abbrev pub invariant-loop-k : goal.invariant-loop-k
invariant-loop-k l = Swept l.fn.self.size (node_steps l.fn.self l.fn.self.size.nodes l.fn.i l.k) l.initial.table l.table (Ok l.moved)
