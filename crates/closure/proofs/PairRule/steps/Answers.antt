-- `closure::PairRule::steps` meets its contract: the loop's invariant is that the steps from a node below i were taken. Assumes nothing.
use Rattle.std.proofs.lemmas.Result.{err_from_is_err_and}
use Rattle.closure.specs.Passes.{node_steps}
use Rattle.closure.proofs.Swept.{swept_next, swept_stop}
use Rattle.closure.proofs.PairRule.steps.Goals as goal

pub returns-in_err-moved : goal.returns-in_err-moved
returns-in_err-moved c =
    let l = c.loop-i in
    let a = c.args in
    let p = err_from_is_err_and c.from_residual.result c.from_residual.ensures.1 in
    rw (p.1, p.2)
    (swept_stop a.self.size (λ i. node_steps a.self a.self.size.nodes i a.self.size.nodes) l.i a.self.size.nodes a.table.now l.table _ l.moved _ c.loop-i-test.true l.invariant c.in_err-moved.ensures)

pub loop-i-preserved : goal.loop-i-preserved
loop-i-preserved c =
    let l = c.loop-i in
    let a = c.args in
    swept_next a.self.size (λ i. node_steps a.self a.self.size.nodes i a.self.size.nodes) l.i a.table.now l.table _ _ _ l.invariant c.in_ok-moved.ensures
