-- Some height up to one more than the number of words is no word's: so a tree of any height has one that is low. Assumes nothing.
use mathlib.Core.Path.{◌≡◌, refl}
use mathlib.Core.Logic.{◌≢◌, ◌⊎◌, inl, inr}
use mathlib.Core.Bool.{Bool, true, false, cond}
use Prim.Native.Nat.{ℕ, zero, suc, ◌+◌, ◌≤◌, ◌<◌}
use native.Mathlib.Omega.{arith}
use native.Mathlib.Decide.{dec_lt}
use lib.Dec.{leb}
use borrow.Author.Tests.{leb-true, le-leb, lt-leb}
use Rattle.meaning.specs.Table.{sum}
use Rattle.meaning.proofs.Sums.{sum_few, sum_less}

-- a height that none of the first c has
pub record Gap (f : ℕ → ℕ) (c : ℕ) : Type 0 where
  pub level : ℕ
  pub pos : 1 ≤ level
  pub few : level ≤ c + 1
  pub free : (a : ℕ) → a < c → f a ≢ level

module _ (f : ℕ → ℕ) where
  -- 1 for a height of at most q
  abbrev low : ℕ → ℕ → ℕ
  low q a = cond (leb (f a) q) 1 0

  low_few : (q a : ℕ) → low q a ≤ 1
  low_few q a = go (leb (f a) q)
    where
      go : (b : Bool) → cond b 1 0 ≤ 1
      go true = omega arith
      go false = omega arith

  low_more : (q a : ℕ) → low q a ≤ low (suc q) a
  low_more q a = go (leb (f a) q) refl
    where
      go : (b : Bool) → leb (f a) q ≡ b → cond b 1 0 ≤ low (suc q) a
      go true e =
          let l : f a ≤ suc q = omega (arith, leb-true (f a) q e) in
          rw (le-leb (f a) (suc q) l) (omega arith)
      go false e = omega arith

  low_new : (q a : ℕ) → f a ≡ suc q → low q a < low (suc q) a
  low_new q a e = rw (lt-leb (f a) q (omega arith), le-leb (f a) (suc q) (omega arith)) (omega arith)

  -- as long as no height is free, each brings one more word
  climb : (c q : ℕ) → q ≤ c + 1 → Gap f c ⊎ (q ≤ sum (low q) c)
  climb c zero l = inr (omega arith)
  climb c (suc q) l = go (climb c q (omega arith)) (dec_lt (sum (low q) c) (sum (low (suc q)) c))
    where
      go : Gap f c ⊎ (q ≤ sum (low q) c) → Dec (sum (low q) c < sum (low (suc q)) c) → Gap f c ⊎ (suc q ≤ sum (low (suc q)) c)
      go (inl gap) d = inl gap
      go (inr h) (yes m) = inr (omega arith)
      go (inr h) (no m) =
          inl (record {
            level = suc q;
            pos = omega arith;
            few = l;
            free = λ a la e. m (sum_less (low q) (low (suc q)) (low_more q) a (low_new q a e) c la);
          })

  pub gap : (c : ℕ) → Gap f c
  gap c = go (climb c (c + 1) (omega arith))
    where
      go : Gap f c ⊎ (c + 1 ≤ sum (low (c + 1)) c) → Gap f c
      go (inl found) = found
      go (inr l) = absurd (omega (arith, sum_few (low (c + 1)) (low_few (c + 1)) c))
