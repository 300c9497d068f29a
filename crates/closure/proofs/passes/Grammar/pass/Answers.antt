-- `closure::passes::Grammar::pass` meets its contract: the loop's invariant is that the steps of the rules below r were taken. Assumes nothing.
use mathlib.Core.Path.{◌≡◌}
use Prim.Native.Nat.{◌/◌}
use native.Mathlib.Omega.{arith}
use lib.ListN.{length}
use Rattle.std.proofs.lemmas.Result.{err_from_is_err_and}
use Rattle.meaning.specs.Passes.{rule_steps, steps_of}
use Rattle.closure.proofs.Swept.{swept_next, swept_stop}
use Rattle.closure.proofs.passes.Grammar.pass.Goals as goal

pub returns-in_err-moved : goal.returns-in_err-moved
unfolding steps_of
returns-in_err-moved c =
    let l = c.loop-r in
    let a = c.args in
    let p = err_from_is_err_and c.from_residual.result c.from_residual.ensures.1 in
    rw (p.1, p.2)
    (swept_stop a.self.now.size (rule_steps a.self.now.rules.now a.self.now.size.nodes) l.r (length a.self.now.rules.now / 3) a.table.now l.table _ l.moved _ c.loop-r-test.true l.invariant c.in_err-moved.ensures)

pub loop-r-preserved : goal.loop-r-preserved
loop-r-preserved c =
    let l = c.loop-r in
    let a = c.args in
    swept_next a.self.now.size (rule_steps a.self.now.rules.now a.self.now.size.nodes) l.r a.table.now l.table _ _ _ l.invariant c.in_ok-moved.ensures

pub returns : goal.returns
unfolding steps_of
returns c =
    let l = c.loop-r in
    let e : l.r ≡ length c.args.self.now.rules.now / 3 = omega arith in
    rw e at l.invariant
