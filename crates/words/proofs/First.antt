-- Laws of the least index at which a test holds. Assumes nothing.
use mathlib.Core.Bool.{Bool, true, false, true≢false}
use mathlib.Core.Path.{◌≡◌, refl, sym, ap, ◌∙◌}
use mathlib.Core.Logic.{◌↔◌}
use Prim.Native.Nat.{ℕ, zero, suc, ◌≤◌, ◌<◌, zero-le, suc-le-suc}
use native.Mathlib.Nat.{not-suc-le-zero, le_of_suc-le-suc, le_refl}
use native.Mathlib.Omega.{arith}
use lib.Dec.{ltb}
use borrow.Author.Tests.{ltb-true, ltb-false}
use borrow.Table.Steps.{cases}
use Rattle.words.specs.First.{first}

-- i is the least index below n at which p holds, or n: none below it does, and it does itself unless it is n
pub first_at :
    (p : ℕ → Bool) (n i : ℕ) →
    i ≤ n →
    ((k : ℕ) → k < i → p k ≡ false) →
    (i < n → p i ≡ true) →
    first p n ≡ i
unfolding first
first_at p zero zero le none here = refl
first_at p zero (suc i) le none here = absurd (not-suc-le-zero le)
first_at p (suc n) zero le none here = rw (here (suc-le-suc zero-le))
first_at p (suc n) (suc i) le none here =
    rw (none 0 (suc-le-suc zero-le))
    (ap suc (first_at (λ k. p (suc k)) n i (le_of_suc-le-suc le) (λ k h. none (suc k) (suc-le-suc h)) (λ h. here (suc-le-suc h))))

pub first_le : (p : ℕ → Bool) (n : ℕ) → first p n ≤ n
unfolding first
first_le p zero = zero-le
first_le p (suc n) = cases (p 0) (λ t. rw t zero-le) (λ f. rw f (suc-le-suc (first_le (λ k. p (suc k)) n)))

-- none below it
pub first_none : (p : ℕ → Bool) (n k : ℕ) → k < first p n → p k ≡ false
unfolding first
first_none p zero k h = absurd (not-suc-le-zero h)
first_none p (suc n) zero h = cases (p 0) (λ t. absurd (not-suc-le-zero (rw t at h))) (λ f. f)
first_none p (suc n) (suc k) h =
    cases (p 0)
    (λ t. absurd (not-suc-le-zero (rw t at h)))
    (λ f. first_none (λ k. p (suc k)) n k (le_of_suc-le-suc (rw f at h)))

-- at it, unless it is n
pub first_here : (p : ℕ → Bool) (n : ℕ) → first p n < n → p (first p n) ≡ true
unfolding first
first_here p zero h = absurd (not-suc-le-zero h)
first_here p (suc n) h =
    cases (p 0)
    (λ t. rw t t)
    (λ f. rw f (first_here (λ k. p (suc k)) n (le_of_suc-le-suc (rw f at h))))

module _ (p : ℕ → Bool) (n : ℕ) where
  -- it is n exactly if p holds nowhere below n
  pub first_end : (first p n ≡ n) ↔ ((k : ℕ) → k < n → p k ≡ false)
  first_end = (λ e k h. first_none p n k (omega arith), λ none. first_at p n n (le_refl n) none (λ h. absurd (omega arith)))

  pub first_lowest : (k : ℕ) → p k ≡ true → first p n ≤ k
  first_lowest k e =
      cases (ltb k (first p n))
      (λ t. absurd (true≢false (sym e ∙ first_none p n k (ltb-true k (first p n) t))))
      (λ f. ltb-false k (first p n) f)

  pub first_same : (q : ℕ → Bool) → ((k : ℕ) → k < n → p k ≡ q k) → first p n ≡ first q n
  first_same q e =
      let le = first_le q n in
      first_at p n (first q n) le
      (λ k h. e k (omega arith) ∙ first_none q n k h)
      (λ h. e (first q n) h ∙ first_here q n h)
