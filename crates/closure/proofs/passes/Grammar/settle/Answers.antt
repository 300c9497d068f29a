-- `closure::passes::Grammar::settle` meets its contract, where a pass found a step that is too high; else the check finds the proof. Assumes nothing.
use Rattle.std.proofs.lemmas.Result.{err_from_is_err_and}
use Rattle.closure.proofs.Swept.{passing_high}
use Rattle.closure.proofs.passes.Grammar.settle.Goals as goal

pub returns-in_err-pass : goal.returns-in_err-pass
returns-in_err-pass c =
    let p = err_from_is_err_and c.from_residual.result c.from_residual.ensures.1 in
    rw (p.1, p.2) (passing_high _ _ _ c.loop.table _ c.loop.invariant.0 _ c.in_err-pass.ensures)
