-- Sums over a table's words as the words fall: how many are filled, and the total, the measure of the run. Assumes nothing.
use mathlib.Core.Path.{◌≡◌, refl}
use mathlib.Core.List.{List}
use mathlib.Core.Bool.{Bool, true, false, cond}
use Prim.Native.Nat.{ℕ, zero, suc, ◌≤◌, ◌<◌}
use native.Mathlib.Omega.{arith}
use native.Mathlib.Decide.{ℕ_discrete}
use lib.ListN.{get_or}
use lib.Dec.{ltb}
use borrow.Author.Tests.{ltb-true, lt-ltb, le-ltb}
use Rattle.key.specs.Keys.{EMPTY}
use Rattle.meaning.specs.Table.{sum, filled, total}

pub sum_few : (f : ℕ → ℕ) → ((a : ℕ) → f a ≤ 1) → (c : ℕ) → sum f c ≤ c
sum_few f few zero = omega arith
sum_few f few (suc c) = omega (arith, sum_few f few c, few c)

module _ (f h : ℕ → ℕ) (below : (a : ℕ) → f a ≤ h a) where
  pub sum_le : (c : ℕ) → sum f c ≤ sum h c
  sum_le zero = omega arith
  sum_le (suc c) = omega (arith, sum_le c, below c)

  pub sum_less : (a : ℕ) → f a < h a → (c : ℕ) → a < c → sum f c < sum h c
  sum_less a less zero l = absurd (omega arith)
  sum_less a less (suc c) l = go (sum_less a less c) (ℕ_discrete a c)
    where
      go : (a < c → sum f c < sum h c) → Dec (a ≡ c) → sum f (suc c) < sum h (suc c)
      go ih (yes e) = omega (arith, sum_le c, rw e at less)
      go ih (no e) = let q : a < c = omega arith in omega (arith, ih q, below c)

-- 1 for a filled word, 0 for an empty one
abbrev mark : ℕ → ℕ
mark x = cond (ltb x EMPTY) 1 0

mark_few : (x : ℕ) → mark x ≤ 1
mark_few x = go (ltb x EMPTY)
  where
    go : (b : Bool) → cond b 1 0 ≤ 1
    go true = omega arith
    go false = omega arith

mark_filled : (x : ℕ) → x < EMPTY → mark x ≡ 1
mark_filled x h = rw (lt-ltb x EMPTY h) refl

mark_empty : (x : ℕ) → EMPTY ≤ x → mark x ≡ 0
mark_empty x h = rw (le-ltb x EMPTY h) refl

mark_falls : (x y : ℕ) → y ≤ x → mark x ≤ mark y
mark_falls x y h = go (ltb x EMPTY) refl
  where
    go : (b : Bool) → ltb x EMPTY ≡ b → cond b 1 0 ≤ mark y
    go true e = omega (arith, mark_filled y (omega (arith, ltb-true x EMPTY e)))
    go false e = omega arith

pub filled_few : (t : List ℕ) (c : ℕ) → filled t c ≤ c
filled_few t = sum_few (λ a. mark (get_or t a 0)) (λ a. mark_few (get_or t a 0))

pub filled_one : (t : List ℕ) (a : ℕ) → get_or t a 0 < EMPTY → (c : ℕ) → a < c → 1 ≤ filled t c
filled_one t a h c l =
    omega (arith, sum_less (λ x. 0) (λ x. mark (get_or t x 0)) (λ x. omega arith) a (omega (arith, mark_filled (get_or t a 0) h)) c l)

module _ (t t' : List ℕ) (falls : (c : ℕ) → get_or t' c 0 ≤ get_or t c 0) where
  -- where words fall, none is emptied
  pub filled_falls : (c : ℕ) → filled t c ≤ filled t' c
  filled_falls = sum_le (λ x. mark (get_or t x 0)) (λ x. mark (get_or t' x 0)) (λ x. mark_falls (get_or t x 0) (get_or t' x 0) (falls x))

  -- and a newly filled one counts
  pub filled_more : (a : ℕ) → EMPTY ≤ get_or t a 0 → get_or t' a 0 < EMPTY → (c : ℕ) → a < c → filled t c < filled t' c
  filled_more a e f =
      sum_less (λ x. mark (get_or t x 0)) (λ x. mark (get_or t' x 0)) (λ x. mark_falls (get_or t x 0) (get_or t' x 0) (falls x)) a
      (omega (arith, mark_empty (get_or t a 0) e, mark_filled (get_or t' a 0) f))

  pub total_less : (a : ℕ) → get_or t' a 0 < get_or t a 0 → (c : ℕ) → a < c → total t' c < total t c
  total_less = sum_less (λ x. get_or t' x 0) (λ x. get_or t x 0) falls
