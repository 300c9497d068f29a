-- The run's promise settles its answer and every word of the table and the lengths. Assumes nothing.
use mathlib.Core.Path.{◌≡◌, refl, sym, ◌∙◌}
use mathlib.Core.List.{List}
use Prim.Native.Nat.{ℕ}
use native.Mathlib.Omega.{arith}
use lib.ListN.{length}
use Rattle.std.specs.Prelude.{Result, Ok, Err}
use Rattle.words.specs.Refusals.{Refusal, Check, Good}
use Rattle.words.proofs.Refusals.{and_good}
use Rattle.meaning.specs.Net.{Net, Sane}
use Rattle.meaning.proofs.FinalTables.{final_lists}
use Rattle.meaning.proofs.Heights.{accepted_always}
use Rattle.meaning.proofs.Lengths.{lengths_list}
use Rattle.meaning.proofs.Right.{final_falling}
use Rattle.numbers.specs.declared.Numbers.{Numbers}
use Rattle.lists.specs.Lists.{net, lists_check}
use Rattle.lists.proofs.Right.{accepted, sane}
use Rattle.closure.specs.Runs.{run_check, Completed, High12, RunIs}

-- an answer, and what it leaves of the table and the lengths
pub record SameRun (a b : Result ℕ Refusal) (t t' ls ls' : List ℕ) : Type 0 where
  pub answer : a ≡ b
  pub table : t ≡ t'
  pub lengths : ls ≡ ls'

module _ {g : Net} (ok : Sane g) where
  -- a run is never stopped: no possible step from the start is too high
  pub never_12 : {c : ℕ} → High12 g c → ⊥
  never_12 h =
      let low = (accepted_always ok h.start h.starts h.steps h.only h.step h.can).low in
      let high = h.high in
      let z : ◌≡◌ {A = ℕ} 0 1 = cc in
      omega arith

  pub completed_same : {t ls t' ls' t'' ls'' : List ℕ} {d e : ℕ} → Completed g t ls t' ls' d → Completed g t ls t'' ls'' e → SameRun (Ok d) (Ok e) t' t'' ls' ls''
  completed_same {t} {ls} {t'} {ls'} {t''} {ls''} {d} {e} x y =
      let same : t' ≡ t'' =
      final_lists t' t'' x.final y.final (x.kept ∙ sym y.kept) in
      let deep : d ≡ e = x.deep ∙ (rw same (sym y.deep)) in
      record {
        answer = rw deep refl;
        table = same;
        lengths = lengths_list ok (final_falling ok x.final) x.lengths (rw same y.lengths) (x.kept_lengths ∙ sym y.kept_lengths);
      }

  good_same : (t ls t' ls' t'' ls'' : List ℕ) (a b : Result ℕ Refusal) → RunIs Good g t ls t' ls' a → RunIs Good g t ls t'' ls'' b → SameRun a b t' t'' ls' ls''
  good_same t ls t' ls' t'' ls'' (Ok d) (Ok e) x y = completed_same x y
  good_same t ls t' ls' t'' ls'' (Err r) b x y = absurd (never_12 x.high)
  good_same t ls t' ls' t'' ls'' (Ok d) (Err s) x y = absurd (never_12 y.high)

-- two outcomes that meet the run's promise are equal
pub run_settled : (numbers : Numbers) (rules edges t ls t' ls' t'' ls'' : List ℕ) (a b : Result ℕ Refusal)
    → RunIs (run_check numbers rules edges (length t) (length ls)) (net numbers rules edges) t ls t' ls' a
    → RunIs (run_check numbers rules edges (length t) (length ls)) (net numbers rules edges) t ls t'' ls'' b → SameRun a b t' t'' ls' ls''
unfolding run_check
run_settled numbers rules edges t ls t' ls' t'' ls'' a b = go (run_check numbers rules edges (length t) (length ls)) refl
  where
    go : (c : Check) → run_check numbers rules edges (length t) (length ls) ≡ c → RunIs c (net numbers rules edges) t ls t' ls' a
        → RunIs c (net numbers rules edges) t ls t'' ls'' b → SameRun a b t' t'' ls' ls''
    go (Ok _) e x y = good_same (sane numbers rules edges (accepted numbers rules edges ((and_good (lists_check numbers rules edges) _).0 e).0)) t ls t' ls' t'' ls'' a b x y
    go (Err r) e x y = record {
      answer = x.0 ∙ sym y.0;
      table = x.1.table ∙ sym y.1.table;
      lengths = x.1.lengths ∙ sym y.1.lengths;
    }
