-- The height of a pair: the laws that every other proof goes by, so that another measure has only these to meet. Assumes nothing.
use Prim.Native.Nat.{ℕ, ◌+◌, ◌≤◌, ◌<◌}
use native.Mathlib.Omega.{arith}
use Rattle.meaning.specs.Trees.{joined}

-- above both sides
pub joined_left : (a b : ℕ) → a < joined a b
unfolding joined
joined_left a b = omega arith

pub joined_right : (a b : ℕ) → b < joined a b
unfolding joined
joined_right a b = omega arith

-- monotone in both
pub joined_mono : (a b c d : ℕ) → a ≤ c → b ≤ d → joined a b ≤ joined c d
unfolding joined
joined_mono a b c d h l = omega arith

-- one more than what bounds both sides
pub joined_next : (a b p : ℕ) → a ≤ p → b ≤ p → joined a b ≤ p + 1
unfolding joined
joined_next a b p h l = omega arith

-- no more than as many as two sides have together
pub joined_sum : (a b : ℕ) → 1 ≤ a → 1 ≤ b → joined a b ≤ a + b
unfolding joined
joined_sum a b h l = omega arith
