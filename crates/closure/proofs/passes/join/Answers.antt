-- `closure::passes::join` meets its contract, where the candidate is too high; else the check finds the proof. Assumes nothing.
use mathlib.Core.Path.{◌≡◌, refl, sym, ap, ◌∙◌}
use Prim.Native.Nat.{◌<◌}
use native.Mathlib.Omega.{arith}
use lib.ListN.{get_or}
use Rattle.std.proofs.lemmas.Bool.{leb-false}
use Rattle.std.proofs.lemmas.Result.{err_from_is_err_and}
use Rattle.key.specs.Keys.{EMPTY}
use Rattle.key.specs.declared.Key.{Key}
use Rattle.key.specs.declared.Parts.{Parts}
use Rattle.words.proofs.Refusals.{bad_same, must_bad}
use Rattle.meaning.specs.Steps.{candidate}
use Rattle.meaning.proofs.Cells.{candidate_filled}
use Rattle.closure.proofs.passes.join.Goals as goal

pub returns-in_err-must : goal.returns-in_err-must
returns-in_err-must c =
    let a = c.args in
    let p = err_from_is_err_and c.from_residual.result c.from_residual.ensures.1 in
    let m = (must_bad _ _ _ _).0 (sym c.in_err-must.ensures) in
    let filled : get_or a.table.now a.from 0 < EMPTY = grind arith in
    let made : c.joined_key-made.result.word ≡ candidate a.left.word (get_or a.table.now a.from 0) a.k a.r =
    ap (λ (q : Key). q.word) c.joined_key-made.ensures ∙ sym (candidate_filled a.left.word (get_or a.table.now a.from 0) a.k a.r c.requires.left_bound.0 filled) in
    let high = leb-false _ _ m.0 in
    rw (p.1, p.2) (omega arith, rw (ap (λ (q : Parts). q.height) c.split.ensures, made) at high, refl, sym (bad_same m.1))
