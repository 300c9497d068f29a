-- A product row taken in: what `join` leaves. Assumes nothing.
use mathlib.Core.Path.{◌≡◌, refl, sym}
use mathlib.Core.List.{List}
use mathlib.Core.Bool.{Bool, true, false, not}
use Prim.Native.Nat.{ℕ, ◌<◌}
use native.Mathlib.Omega.{arith}
use lib.ListN.{length, get_or}
use lib.Dec.{eqb}
use lib.Bits.{bit_or, or_zero_r}
use borrow.Author.Tests.{eqb-true, eqb-false}
use Rattle.meaning.proofs.Bits.{bit_zero}
use Rattle.rows.specs.Rounds.{Chosen, Union, united, Full, Went, ProductTaken}
use Rattle.rows.proofs.United.{united_same, united_adds, united_total}

module _ (rs : List ℕ) (a b c : ℕ) where
  pub joined_none : get_or rs b 0 ≡ 0 → ProductTaken rs a b c false rs
  joined_none e = record {
    w = 0;
    product = record { only = λ j h. absurd (omega (arith, bit_zero j)); every = λ j h. absurd (nothing j h) };
    is = sym (united_same rs a 0 (or_zero_r (get_or rs a 0)));
    went = (refl, λ j h. absurd (nothing j h));
  }
    where
      nothing : (j : ℕ) → Chosen rs c (get_or rs b 0) j → ⊥
      nothing j h = omega (arith, rw e at h.choice, bit_zero h.k)

  pub joined : (w : ℕ) → a < length rs → Union rs c (get_or rs b 0) w
      → ProductTaken rs a b c (not (eqb (bit_or (get_or rs a 0) w) (get_or rs a 0))) (united rs a w)
  joined w h u = record { w = w; product = u; is = refl; went = go (eqb (bit_or (get_or rs a 0) w) (get_or rs a 0)) refl }
    where
      go : (same : Bool) → eqb (bit_or (get_or rs a 0) w) (get_or rs a 0) ≡ same → Went (not same) (Full a b c) rs (united rs a w)
      go true e =
          let s = united_same rs a w (eqb-true _ _ e) in
          (s, λ j k. rw s at (united_adds rs a w h j (u.every j k)))
      go false e = united_total rs a w h (eqb-false _ _ e)
