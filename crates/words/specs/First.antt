-- The least index at which a test holds. Assumes nothing.
use Rattle.std.specs.Prelude.{ℕ, zero, suc, Bool, cond}

-- the least index below n at which p holds, or n where there is none
unfoldable pub first : (ℕ → Bool) → ℕ → ℕ
first p zero = zero
first p (suc n) = cond (p zero) zero (suc (first (λ k. p (suc k)) n))
