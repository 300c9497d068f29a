-- What taking a word into a row does to every row. Assumes nothing.
use mathlib.Core.Path.{◌≡◌, ap, ◌∙◌}
use mathlib.Core.List.{List}
use mathlib.Core.Logic.{◌≢◌, ◌⊎◌, inl, inr}
use Prim.Native.Nat.{ℕ, ◌≤◌, ◌<◌}
use native.Mathlib.Omega.{arith}
use native.Mathlib.Decide.{ℕ_discrete, dec_lt}
use lib.ListN.{length, get_or, set, drop, length-set}
use lib.Seq.{get_or-set_same, get_or-set_other, set_out, set-get_or, drop-set-lt}
use lib.Bits.{bit_or, or_add_and, and_le_r}
use Rattle.meaning.specs.Table.{total}
use Rattle.meaning.specs.Rows.{bit}
use Rattle.meaning.proofs.Bits.{bit_or_lem}
use Rattle.meaning.proofs.Sums.{total_less}
use Rattle.rows.specs.Rounds.{united}

or_above : (x y : ℕ) → x ≤ bit_or x y
or_above x y = omega (arith, or_add_and x y, and_le_r x y)

module _ (rs : List ℕ) (a w : ℕ) where
  pub united_length : length (united rs a w) ≡ length rs
  unfolding united
  united_length = length-set rs a (bit_or (get_or rs a 0) w)

  pub united_rest : (c : ℕ) → a < c → drop c (united rs a w) ≡ drop c rs
  unfolding united
  united_rest c h = drop-set-lt c rs a (bit_or (get_or rs a 0) w) h

  pub united_same : bit_or (get_or rs a 0) w ≡ get_or rs a 0 → united rs a w ≡ rs
  unfolding united
  united_same e = ap (λ v. set rs a v) e ∙ set-get_or rs a 0

  united_here : a < length rs → get_or (united rs a w) a 0 ≡ bit_or (get_or rs a 0) w
  unfolding united
  united_here h = get_or-set_same rs a (bit_or (get_or rs a 0) w) 0 h

  -- row c stays, or is row a and takes w in
  abbrev Case : ℕ → Type 0
  Case c = (get_or (united rs a w) c 0 ≡ get_or rs c 0) ⊎ ((c ≡ a) × (get_or (united rs a w) c 0 ≡ bit_or (get_or rs c 0) w))

  case : (c : ℕ) → Case c
  unfolding united
  case c = go (ℕ_discrete c a) (dec_lt a (length rs))
    where
      go : Dec (c ≡ a) → Dec (a < length rs) → Case c
      go (yes e) (yes h) = inr (e, rw e (get_or-set_same rs a (bit_or (get_or rs a 0) w) 0 h))
      go (yes e) (no h) = inl (ap (λ l. get_or l c 0) (set_out rs a (bit_or (get_or rs a 0) w) (omega arith)))
      go (no e) h = inl (get_or-set_other rs a c (bit_or (get_or rs a 0) w) 0 e)

  -- a bit is set after it exactly if it was set before, or is one of w's and in row a
  pub united_only : (c j : ℕ) → bit (get_or (united rs a w) c 0) j ≡ 1 → (bit (get_or rs c 0) j ≡ 1) ⊎ ((c ≡ a) × (bit w j ≡ 1))
  united_only c j b = go (case c) (ℕ_discrete (bit (get_or rs c 0) j) 1)
    where
      go : Case c → Dec (bit (get_or rs c 0) j ≡ 1) → (bit (get_or rs c 0) j ≡ 1) ⊎ ((c ≡ a) × (bit w j ≡ 1))
      go u (yes e) = inl e
      go (inl e) (no n) = inl (rw e at b)
      go (inr e) (no n) = inr (e.0, omega (arith, rw e.1 at b, bit_or_lem (get_or rs c 0) w j))

  pub united_keeps : (c j : ℕ) → bit (get_or rs c 0) j ≡ 1 → bit (get_or (united rs a w) c 0) j ≡ 1
  united_keeps c j b = go (case c)
    where
      go : Case c → bit (get_or (united rs a w) c 0) j ≡ 1
      go (inl e) = rw e b
      go (inr e) = rw e.1 (omega (arith, bit_or_lem (get_or rs c 0) w j))

  pub united_adds : a < length rs → (j : ℕ) → bit w j ≡ 1 → bit (get_or (united rs a w) a 0) j ≡ 1
  united_adds h j b = rw (united_here h) (omega (arith, bit_or_lem (get_or rs a 0) w j))

  united_above : (c : ℕ) → get_or rs c 0 ≤ get_or (united rs a w) c 0
  united_above c = go (case c)
    where
      go : Case c → get_or rs c 0 ≤ get_or (united rs a w) c 0
      go (inl e) = omega arith
      go (inr e) = rw e.1 (or_above (get_or rs c 0) w)

  -- where row a changes, the total grows
  pub united_total : a < length rs → bit_or (get_or rs a 0) w ≢ get_or rs a 0 → total rs (length rs) < total (united rs a w) (length rs)
  united_total h n =
      total_less (united rs a w) rs united_above a (omega (arith, united_here h, or_above (get_or rs a 0) w)) (length rs) h
