-- What a candidate's word is, and what taking a key does. Assumes nothing.
use mathlib.Core.Path.{◌≡◌}
use mathlib.Core.List.{List}
use mathlib.Core.Bool.{true, false}
use Prim.Native.Nat.{ℕ, ◌≤◌, ◌<◌}
use native.Mathlib.Omega.{arith}
use lib.ListN.{get_or, set}
use borrow.Author.Tests.{lt-ltb, le-ltb}
use Rattle.std.specs.Prelude.{Ok, Err}
use Rattle.words.specs.Refusals.{must}
use Rattle.words.specs.declared.Reason.TheVariants.{TooHigh}
use Rattle.key.specs.Keys.{EMPTY, HIGHEST, key, height_of}
use Rattle.meaning.specs.Trees.{joined}
use Rattle.meaning.proofs.Cells.{candidate_filled, candidate_left, candidate_right}
use Rattle.start.proofs.Entered.{enter_keeps, enter_wins}
use Rattle.step.specs.Entering.{offered, taken}

-- ---- the candidate as a word

module _ (x y k r : ℕ) where
  pub offered_left : x ≡ EMPTY → offered x y k r ≡ EMPTY
  unfolding offered
  offered_left e = rw (candidate_left x y k r (omega arith))

  pub offered_right : y ≡ EMPTY → offered x y k r ≡ EMPTY
  unfolding offered
  offered_right e = rw (candidate_right x y k r (omega arith))

  module _ (hx : x < EMPTY) (hy : y < EMPTY) where
    -- a height that 32 bits do not hold
    pub offered_high : 4294967295 < joined (height_of x) (height_of y) → offered x y k r ≡ EMPTY
    unfolding offered
    offered_high e = rw (candidate_filled x y k r hx hy) (omega arith)

    pub offered_key : joined (height_of x) (height_of y) ≤ 4294967295 → k < 65536 → r < 65536
        → offered x y k r ≡ key (joined (height_of x) (height_of y)) k r
    unfolding offered
    offered_key l hk hr = rw (candidate_filled x y k r hx hy) (omega arith)

-- ---- a key taken

module _ (t : List ℕ) (c κ : ℕ) where
  pub taken_no : get_or t c 0 ≤ κ → taken t c κ ≡ (Ok false, t)
  unfolding taken must
  taken_no l = rw (le-ltb κ _ l, enter_keeps t c κ l)

  pub taken_high : κ < get_or t c 0 → HIGHEST < height_of κ → taken t c κ ≡ (Err (record { reason = TooHigh; place = c }), t)
  unfolding taken must
  taken_high l h = rw (lt-ltb κ _ l, lt-ltb HIGHEST _ h)

  pub taken_yes : κ < get_or t c 0 → height_of κ ≤ HIGHEST → taken t c κ ≡ (Ok true, set t c κ)
  unfolding taken must
  taken_yes l h = rw (lt-ltb κ _ l, le-ltb HIGHEST _ h, enter_wins t c κ l)
