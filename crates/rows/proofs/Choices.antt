-- The loop of `union`: the lowest bit left chooses the next row. Assumes nothing.
use mathlib.Core.Path.{◌≡◌, subst}
use mathlib.Core.List.{List}
use mathlib.Core.Logic.{◌≢◌, ◌⊎◌, inl, inr}
use Prim.Native.Nat.{ℕ, ◌+◌, ◌-◌, ◌^◌, ◌<◌}
use native.Mathlib.Omega.{arith}
use native.Mathlib.Decide.{ℕ_discrete}
use lib.ListN.{get_or}
use lib.Bits.{bit_and, bit_or, and_le_l}
use lib.Count.{count_trailing_zeros}
use Rattle.meaning.specs.Rows.{bit}
use Rattle.meaning.proofs.Bits.{bit_or_lem, bit_zero}
use Rattle.rows.specs.Rounds.{Chosen, Union}
use Rattle.rows.proofs.Lowest.{bit_and_lem, Lowest, lowest}

-- `row` has the rows that the bits of `chosen` choose, but for those of the bits in `left`
pub record Partly (rs : List ℕ) (base chosen row left : ℕ) : Type 0 where
  pub low : left < 2 ^ 64
  pub rest : (k : ℕ) → bit left k ≡ 1 → bit chosen k ≡ 1
  pub only : (j : ℕ) → bit row j ≡ 1 → Chosen rs base chosen j
  pub every : (j : ℕ) (c : Chosen rs base chosen j) → (bit row j ≡ 1) ⊎ (bit left c.k ≡ 1)

module _ (rs : List ℕ) (base chosen : ℕ) where
  pub partly_none : chosen < 2 ^ 64 → Partly rs base chosen 0 chosen
  partly_none h = record {
    low = h;
    rest = λ k b. b;
    only = λ j b. absurd (omega (arith, bit_zero j));
    every = λ j c. inr c.choice;
  }

  pub partly_lowest : {row left : ℕ} → left ≢ 0 → Partly rs base chosen row left → bit chosen (count_trailing_zeros 64 left) ≡ 1
  partly_lowest {left} n p = p.rest _ (lowest 64 left (omega arith) p.low).here

  -- the row of the lowest bit left taken in, and that bit taken off
  pub partly_more : {row left : ℕ} → left ≢ 0 → Partly rs base chosen row left
      → Partly rs base chosen (bit_or row (get_or rs (base + count_trailing_zeros 64 left) 0)) (bit_and left (left - 1))
  partly_more {row} {left} n p = record {
    low = omega (arith, and_le_l left (left - 1), p.low);
    rest = λ k b. p.rest k (omega (arith, bit_and_lem left (left - 1) k));
    only = only;
    every = λ j c. every j c (p.every j c);
  }
    where
      l : Lowest 64 left
      l = lowest 64 left (omega arith) p.low

      next : ℕ
      next = get_or rs (base + count_trailing_zeros 64 left) 0

      only : (j : ℕ) → bit (bit_or row next) j ≡ 1 → Chosen rs base chosen j
      only j b = by (ℕ_discrete (bit row j) 1)
        where
          by : Dec (bit row j ≡ 1) → Chosen rs base chosen j
          by (yes e) = p.only j e
          by (no e) = record { k = count_trailing_zeros 64 left; choice = p.rest _ l.here; row = omega (arith, bit_or_lem row next j) }

      every : (j : ℕ) (c : Chosen rs base chosen j) → (bit row j ≡ 1) ⊎ (bit left c.k ≡ 1)
          → (bit (bit_or row next) j ≡ 1) ⊎ (bit (bit_and left (left - 1)) c.k ≡ 1)
      every j c (inl b) = inl (omega (arith, bit_or_lem row next j))
      every j c (inr b) = by (l.others c.k b)
        where
          by : (c.k ≡ count_trailing_zeros 64 left) ⊎ (bit (bit_and left (left - 1)) c.k ≡ 1)
              → (bit (bit_or row next) j ≡ 1) ⊎ (bit (bit_and left (left - 1)) c.k ≡ 1)
          by (inl e) = inl (omega (arith, bit_or_lem row next j, subst (λ k. bit (get_or rs (base + k) 0) j ≡ 1) e c.row))
          by (inr e) = inr e

  pub partly_all : {row : ℕ} → Partly rs base chosen row 0 → Union rs base chosen row
  partly_all {row} p = record { only = p.only; every = λ j c. done j c (p.every j c) }
    where
      done : (j : ℕ) (c : Chosen rs base chosen j) → (bit row j ≡ 1) ⊎ (bit 0 c.k ≡ 1) → bit row j ≡ 1
      done j c (inl b) = b
      done j c (inr b) = absurd (omega (arith, bit_zero c.k))
