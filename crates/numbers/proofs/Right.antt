-- Tests of numbers as facts. Assumes nothing.
use mathlib.Core.Path.{◌≡◌}
use mathlib.Core.Logic.{◌↔◌}
use mathlib.Core.Bool.{true}
use Prim.Native.Nat.{ℕ, ◌/◌, ◌≤◌}
use lib.Dec.{leb}
use borrow.Author.Tests.{leb-true, le-leb}
use Rattle.words.proofs.Refusals.{both, must_good, and_good}
use Rattle.words.specs.Refusals.{Good}
use Rattle.words.specs.declared.Reason.TheVariants.{TooShort}
use Rattle.numbers.specs.declared.Numbers.{Numbers}
use Rattle.numbers.specs.Numbers.{between, in_limits, limits_check, room_check}

pub record Between (a b x : ℕ) : Type 0 where
  pub low : a ≤ x
  pub high : x ≤ b

pub between_true : (a b x : ℕ) → (between a b x ≡ true) ↔ Between a b x
between_true a b x = (
  λ e. let h = (both (leb a x) (leb x b)).0 e in record { low = leb-true _ _ h.0; high = leb-true _ _ h.1 },
  λ h. (both (leb a x) (leb x b)).1 (le-leb _ _ h.low, le-leb _ _ h.high),
)

-- a buffer is long enough
pub room_good : (place want have : ℕ) → (room_check place want have ≡ Good) ↔ (want ≤ have)
unfolding room_check
room_good place want have =
    let m = must_good (leb want have) TooShort place in
    (λ e. leb-true _ _ (m.0 e), λ h. m.1 (le-leb _ _ h))

-- within their limits, lists of so many words have few records
pub few_records : (numbers : Numbers) (rules edges : ℕ) → limits_check numbers rules edges ≡ Good → (rules / 3 ≤ 256) × (edges / 3 ≤ 4096)
unfolding limits_check in_limits
few_records numbers rules edges e =
    let n = (and_good _ _).0 e in
    let m = (and_good _ _).0 n.1 in
    let l = (and_good _ _).0 m.1 in
    let k = (and_good _ _).0 l.1 in
    (((between_true _ _ _).0 ((must_good _ _ _).0 k.0)).high, ((between_true _ _ _).0 ((must_good _ _ _).0 k.1)).high)
