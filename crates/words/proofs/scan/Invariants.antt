-- What `words::scan` keeps: every check so far was good. Assumes nothing.
use Rattle.std.proofs.Common.{◌≡◌, ℕ, ◌<◌}
use Rattle.words.specs.Refusals.{Check, Good, scan}
use Rattle.words.proofs.scan.Given as goal

abbrev pub invariant-loop-k : goal.invariant-loop-k
invariant-loop-k g l = (c : ℕ → Check) → ((k : ℕ) (q : Check) → k < l.n → g.F.Fn.post l.check (k, tt) q → q ≡ c k) → scan c l.k ≡ Good
