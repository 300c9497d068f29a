-- Bits of a word, as rows hold them: of an or, of a power of two, and that the bits make the word. Assumes nothing.
use mathlib.Core.Path.{◌≡◌, refl, sym, ap, ◌∙◌}
use mathlib.Core.Logic.{◌≢◌}
use Prim.Native.Nat.{ℕ, zero, suc, ◌/◌, ◌%◌, ◌^◌, ◌<◌, max}
use native.Mathlib.Omega.{arith}
use native.Mathlib.Nat.{pow-succ', div-div-eq-div-mul, div-eq_of_lt, one-le-pow}
use lib.Bits.{bit_or, or_shr, or_step}
use Rattle.meaning.specs.Rows.{bit}

pub bit_or_lem : (a b j : ℕ) → bit (bit_or a b) j ≡ max (bit a j) (bit b j)
bit_or_lem a b j = rw (or_shr a b j, or_step (a / 2 ^ j) (b / 2 ^ j)) (omega arith)

pub bit_zero : (j : ℕ) → bit 0 j ≡ 0
bit_zero j = omega (arith, div-eq_of_lt {n = 0} {m = 2 ^ j} (one-le-pow j 2 (omega arith)))

-- the lowest bit, and the others
pub bit_low : (w : ℕ) → bit w 0 ≡ w % 2
bit_low w = omega arith

pub bit_next : (w j : ℕ) → bit w (suc j) ≡ bit (w / 2) j
bit_next w j = rw (pow-succ' 2 j, div-div-eq-div-mul w 2 (2 ^ j)) refl

power_half : (j : ℕ) → 2 ^ suc j / 2 ≡ 2 ^ j
power_half j = omega (arith, pow-succ' 2 j)

-- 2 ^ j has bit j alone
pub bit_power : (j : ℕ) → bit (2 ^ j) j ≡ 1
bit_power zero = refl
bit_power (suc j) = bit_next (2 ^ suc j) j ∙ ap (λ w. bit w j) (power_half j) ∙ bit_power j

pub bit_power_other : (j k : ℕ) → k ≢ j → bit (2 ^ j) k ≡ 0
bit_power_other zero zero n = absurd (n refl)
bit_power_other zero (suc k) n = bit_next 1 k ∙ bit_zero k
bit_power_other (suc j) zero n = omega (arith, pow-succ' 2 j, bit_low (2 ^ suc j))
bit_power_other (suc j) (suc k) n =
    bit_next (2 ^ suc j) k ∙ ap (λ w. bit w k) (power_half j) ∙ bit_power_other j k (λ e. n (ap suc e))

-- a word below 2 ^ n is its n lowest bits
pub bits_same : (n v w : ℕ) → v < 2 ^ n → w < 2 ^ n → ((j : ℕ) → j < n → bit v j ≡ bit w j) → v ≡ w
bits_same zero v w hv hw e = omega arith
bits_same (suc n) v w hv hw e =
    omega (
      arith,
      e 0 (omega arith),
      bit_low v,
      bit_low w,
      bits_same n (v / 2) (w / 2)
          (omega (arith, pow-succ' 2 n)) (omega (arith, pow-succ' 2 n)) (λ j l. sym (bit_next v j) ∙ e (suc j) (omega arith) ∙ bit_next w j),
    )
