-- Numbers that rise strictly. Assumes nothing.
use mathlib.Core.Path.{◌≡◌}
use mathlib.Core.Logic.{⊎_elim}
use Prim.Native.Nat.{ℕ, zero, suc, ◌≤◌, ◌<◌}
use native.Mathlib.Nat.{not-suc-le-zero, le_of_suc-le-suc, eq-or-lt_of_le, le_refl}
use native.Mathlib.Omega.{arith}
use lib.Dec.{eqb}
use borrow.Author.Tests.{eq-eqb, ne_eqb}
use Rattle.words.specs.First.{first}
use Rattle.words.proofs.First.{first_at}

module _ (f : ℕ → ℕ) (n : ℕ) (next : (m : ℕ) → suc m < n → f m < f (suc m)) where
  rises : (i j : ℕ) → i < j → j < n → f i < f j
  rises i zero l h = absurd (not-suc-le-zero l)
  rises i (suc j) l h =
      ⊎_elim
      (λ e. rw e (next j h))
      (λ k. omega (arith, rises i j k (omega arith), next j h))
      (eq-or-lt_of_le (le_of_suc-le-suc l))

  pub weakly : (i j : ℕ) → i ≤ j → j < n → f i ≤ f j
  weakly i j l h = ⊎_elim (λ e. rw e (le_refl (f j))) (λ k. omega (arith, rises i j k h)) (eq-or-lt_of_le l)

  -- a place that holds x is the first that does
  pub first_hit : (x m : ℕ) → m < n → f m ≡ x → first (λ m. eqb (f m) x) n ≡ m
  first_hit x m h e =
      first_at _ n m (omega arith) (λ k l. ne_eqb (f k) x (λ q. omega (arith, rises k m l h))) (λ _. eq-eqb (f m) x e)
