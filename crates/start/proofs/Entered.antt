-- What emptying words and entering a key do. Assumes nothing.
use mathlib.Core.Path.{◌≡◌}
use mathlib.Core.List.{List}
use Prim.Native.Nat.{ℕ, ◌≤◌, ◌<◌, min}
use native.Mathlib.Omega.{arith}
use lib.ListN.{length, get_or, set, replicate}
use lib.Seq.{set-get_or}
use Rattle.words.specs.Tab.{over}
use Rattle.key.specs.Keys.{EMPTY}
use Rattle.start.specs.Entering.{entered_in, cleared}

-- ---- emptied words

-- a table that has the words to empty
pub cleared_all : (c : ℕ) (t : List ℕ) → c ≤ length t → cleared c t ≡ over (replicate c EMPTY) t
unfolding cleared
cleared_all c t h = let e : min c (length t) ≡ c = omega arith in rw e

-- ---- one write

module _ (t : List ℕ) (c κ : ℕ) where
  pub enter_keeps : get_or t c 0 ≤ κ → entered_in t c κ ≡ t
  unfolding entered_in
  enter_keeps l = let e : min (get_or t c 0) κ ≡ get_or t c 0 = omega arith in rw e (set-get_or t c 0)

  pub enter_wins : κ < get_or t c 0 → entered_in t c κ ≡ set t c κ
  unfolding entered_in
  enter_wins l = let e : min (get_or t c 0) κ ≡ κ = omega arith in rw e
