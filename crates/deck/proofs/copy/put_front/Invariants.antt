-- What `deck::copy::put_front` keeps: the words so far are those of the closure. Assumes nothing.
use mathlib.Core.Path.{◌≡◌}
use lib.ListN.{get_or}
use Prim.Native.Nat.{ℕ, ◌<◌}
use Rattle.deck.proofs.copy.put_front.Given as goal

abbrev pub invariant-loop-k : goal.invariant-loop-k
invariant-loop-k g l = (f : ℕ → ℕ) → ((k x : ℕ) → k < l.n → g.F.Fn.post l.word (k, tt) x → x ≡ f k) → (k : ℕ) → k < l.k → get_or l.place-items k 0 ≡ f k
