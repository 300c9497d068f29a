-- The lowest set bit of a word, and the word without it, w & (w - 1); and a word whose set bits are all below n. Assumes nothing.
use mathlib.Core.Path.{◌≡◌, refl, sym, ap, ◌∙◌}
use mathlib.Core.Logic.{◌⊎◌, inl, inr}
use Prim.Native.Nat.{ℕ, zero, suc, ◌-◌, ◌/◌, ◌%◌, ◌^◌, ◌<◌, min}
use native.Mathlib.Omega.{arith}
use native.Mathlib.Nat.{pow-succ'}
use native.Mathlib.Decide.{ℕ_discrete}
use lib.Arith.{bin_ind}
use lib.Pow.{pow_pos}
use lib.Bits.{bit_and, and_step, and_shr, and_self}
use lib.Count.{count_trailing_zeros}
use Rattle.meaning.specs.Rows.{bit}
use Rattle.meaning.proofs.Bits.{bit_low, bit_next}

pub bit_and_lem : (a b j : ℕ) → bit (bit_and a b) j ≡ min (bit a j) (bit b j)
bit_and_lem a b j = rw (and_shr a b j, and_step (a / 2 ^ j) (b / 2 ^ j)) (omega arith)

pub record Lowest (d w : ℕ) : Type 0 where
  pub here : bit w (count_trailing_zeros d w) ≡ 1
  pub others : (k : ℕ) → bit w k ≡ 1 → (k ≡ count_trailing_zeros d w) ⊎ (bit (bit_and w (w - 1)) k ≡ 1)

-- the others of an odd word are its upper half's bits; those of an even word are its upper half's others
rest_next : (w k : ℕ) → bit (bit_and w (w - 1)) (suc k) ≡ bit (bit_and (w / 2) ((w - 1) / 2)) k
rest_next w k = bit_next (bit_and w (w - 1)) k ∙ ap (λ v. bit v k) (and_shr w (w - 1) 1)

module _ (d w : ℕ) where
  odd_lowest : w % 2 ≡ 1 → Lowest (suc d) w
  unfolding count_trailing_zeros
  odd_lowest e = record {
    here = rw e (bit_low w ∙ e);
    others = rw e others;
  }
    where
      others : (k : ℕ) → bit w k ≡ 1 → (k ≡ zero) ⊎ (bit (bit_and w (w - 1)) k ≡ 1)
      others zero b = inl refl
      others (suc k) b =
          let h : (w - 1) / 2 ≡ w / 2 = omega arith in
          inr (rest_next w k ∙ ap (λ v. bit (bit_and (w / 2) v) k) h ∙ ap (λ v. bit v k) (and_self (w / 2)) ∙ sym (bit_next w k) ∙ b)

  even_lowest : w % 2 ≡ 0 → Lowest d (w / 2) → Lowest (suc d) w
  unfolding count_trailing_zeros
  even_lowest e l = record {
    here = rw e (bit_next w (count_trailing_zeros d (w / 2)) ∙ l.here);
    others = rw e others;
  }
    where
      others : (k : ℕ) → bit w k ≡ 1 → (k ≡ suc (count_trailing_zeros d (w / 2))) ⊎ (bit (bit_and w (w - 1)) k ≡ 1)
      others zero b = absurd (omega (arith, bit_low w))
      others (suc k) b = go (l.others k (sym (bit_next w k) ∙ b))
        where
          go : (k ≡ count_trailing_zeros d (w / 2)) ⊎ (bit (bit_and (w / 2) (w / 2 - 1)) k ≡ 1)
              → (suc k ≡ suc (count_trailing_zeros d (w / 2))) ⊎ (bit (bit_and w (w - 1)) (suc k) ≡ 1)
          go (inl z) = inl (ap suc z)
          go (inr z) = let h : (w - 1) / 2 ≡ w / 2 - 1 = omega arith in inr (rest_next w k ∙ ap (λ v. bit (bit_and (w / 2) v) k) h ∙ z)

pub lowest : (d w : ℕ) → 0 < w → w < 2 ^ d → Lowest d w
lowest zero w p h = absurd (omega arith)
lowest (suc d) w p h = go (lowest d (w / 2)) (w % 2) refl (omega arith)
  where
    go : (0 < w / 2 → w / 2 < 2 ^ d → Lowest d (w / 2)) → (b : ℕ) → w % 2 ≡ b → b < 2 → Lowest (suc d) w
    go ih zero e l = even_lowest d w e (ih (omega arith) (omega (arith, pow-succ' 2 d)))
    go ih (suc b) e l = odd_lowest d w (omega arith)

-- a word whose set bits are all below n
pub bits_below : (w n : ℕ) → ((j : ℕ) → bit w j ≡ 1 → j < n) → w < 2 ^ n
bits_below = bin_ind (λ w. (n : ℕ) → ((j : ℕ) → bit w j ≡ 1 → j < n) → w < 2 ^ n) (λ n b. pow_pos n) halves
  where
    halves : (w : ℕ) → ((n : ℕ) → ((j : ℕ) → bit (w / 2) j ≡ 1 → j < n) → w / 2 < 2 ^ n)
        → (n : ℕ) → ((j : ℕ) → bit w j ≡ 1 → j < n) → w < 2 ^ n
    halves w ih zero b = go (ℕ_discrete (w % 2) 1)
      where
        go : Dec (w % 2 ≡ 1) → w < 1
        go (yes e) = absurd (omega (arith, b 0 (bit_low w ∙ e)))
        go (no e) = omega (arith, ih 0 (λ j e. absurd (omega (arith, b (suc j) (bit_next w j ∙ e)))))
    halves w ih (suc n) b = omega (arith, pow-succ' 2 n, ih n (λ j e. omega (arith, b (suc j) (bit_next w j ∙ e))))
