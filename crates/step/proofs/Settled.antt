-- Two answers that meet the promise of a step are equal, and so are the tables they leave. Assumes nothing.
use mathlib.Core.Path.{◌≡◌, sym, ap, ◌∙◌}
use mathlib.Core.List.{List}
use Prim.Native.Nat.{ℕ}
use Rattle.numbers.specs.declared.Numbers.{Numbers}
use mathlib.Core.Bool.{Bool}
use Rattle.std.specs.Prelude.{Result}
use Rattle.words.specs.Refusals.{Refusal}
use Rattle.step.specs.Calls.{step_of}

-- an equation settles by itself
pub step_settled : (numbers : Numbers) (rules edges t : List ℕ) (r i k j : ℕ) (a b : Result Bool Refusal) (u v : List ℕ)
    → (a, u) ≡ step_of numbers rules edges t r i k j → (b, v) ≡ step_of numbers rules edges t r i k j → (a ≡ b) × (u ≡ v)
step_settled numbers rules edges t r i k j a b u v x y =
    let e = x ∙ sym y in
    (ap (λ (z : Result Bool Refusal × List ℕ). z.0) e, ap (λ (z : Result Bool Refusal × List ℕ). z.1) e)
