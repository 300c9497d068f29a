-- What `zeros_from` tests: a sum of bytes is 0 exactly if every byte is. Assumes nothing.
use mathlib.Core.List.{List, [], ◌∷◌}
use mathlib.Core.Bool.{true}
use mathlib.Core.Path.{◌≡◌, refl}
use mathlib.Core.Logic.{◌↔◌, ⊎_elim}
use Prim.Native.Nat.{ℕ, zero, suc, ◌+◌, ◌*◌, ◌-◌, ◌≤◌, ◌<◌}
use native.Mathlib.Nat.{not-suc-le-zero, le_of_suc-le-suc, eq-or-lt_of_le, le_refl}
use native.Mathlib.Omega.{arith}
use lib.ListN.{get_or}
use lib.Dec.{eqb}
use Rattle.std.specs.Prelude.{sum}
use Rattle.std.specs.List.{fold, list_all}
use borrow.Author.Tests.{eqb-true, eqb-false, eq-eqb, ne_eqb}
use borrow.Table.Steps.{cases}
use Rattle.deck.specs.Blocks.{sum_at, zeros_from}

sum_from : (a : ℕ) (l : List ℕ) → a ≤ fold ◌+◌ a l
sum_from a [] = le_refl a
sum_from a (x ∷ l) = omega (arith, sum_from (a + x) l)

-- a sum is 0 exactly if every term is
pub all_zero : (l : List ℕ) → list_all (λ b. eqb b 0) l ≡ eqb (sum l) 0
all_zero [] = refl
all_zero (x ∷ l) = cases (eqb x 0)
    (λ t. let e = eqb-true x 0 t in rw e (all_zero l))
    (λ f. rw (f, ne_eqb (fold ◌+◌ (0 + x) l) 0 (λ e. eqb-false x 0 f (omega (arith, sum_from (0 + x) l)))))

-- n bytes from position p on
sum_zero : (n : ℕ) (d : List ℕ) (p : ℕ) → (sum_at n d p ≡ 0) ↔ ((k : ℕ) → k < n → get_or d (p + k) 0 ≡ 0)
unfolding sum_at
sum_zero zero d p = (λ e k h. absurd (not-suc-le-zero h), λ all. refl)
sum_zero (suc n) d p =
    let below = sum_zero n d p in (
      λ e k h. ⊎_elim (λ q. rw q (omega arith)) (below.0 (omega arith) k) (eq-or-lt_of_le (le_of_suc-le-suc h)),
      λ all. omega (arith, below.1 (λ k h. all k (omega arith)), all n (omega arith)),
    )

-- every byte of block b from word w on, up to byte 507
pub zeros_from_lem : (d : List ℕ) (b w : ℕ) → (zeros_from d b w ≡ true) ↔ ((i : ℕ) → 4 + 2 * w ≤ i → i < 508 → get_or d (b * 512 + i) 0 ≡ 0)
zeros_from_lem d b w =
    let s = sum_zero (504 - 2 * w) d (b * 512 + 4 + 2 * w) in (
      λ t i low high.
          let at : b * 512 + 4 + 2 * w + (i - (4 + 2 * w)) ≡ b * 512 + i = omega arith in
          rw at at (s.0 (eqb-true _ _ t) (i - (4 + 2 * w)) (omega arith)),
      λ all.
          eq-eqb _ _ (s.1 (λ k h.
          let at : b * 512 + (4 + 2 * w + k) ≡ b * 512 + 4 + 2 * w + k = omega arith in
          rw at at (all (4 + 2 * w + k) (omega arith) (omega arith)))),
    )
