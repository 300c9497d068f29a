-- What the passes are proved with: the steps that a stretch of code takes, in its order, and what it finds. Assumes nothing.
use Rattle.std.specs.Prelude.{◌≡◌, List, [], ◌∷◌, ◌++◌, Bool, true, false, ◌||◌, ℕ, ◌≤◌, ◌<◌, get_or, set, drop, Result, Ok, Err}
use Rattle.words.specs.declared.Reason.TheVariants.{TooHigh}
use Rattle.words.specs.Refusals.{Refusal, Check}
use Rattle.key.specs.Keys.{HIGHEST, height_of}
use Rattle.meaning.specs.Table.{total}
use Rattle.meaning.specs.Steps.{Step, after, target_of, too_high}
use Rattle.meaning.specs.Passes.{each, steps_of}
use Rattle.closure.specs.declared.Size.{Size}
use Rattle.closure.specs.declared.PairRule.{PairRule}
use Rattle.closure.specs.Sizes.{count, LowTable}

-- what a stretch of steps finds: whether a step wrote, or the refusal where one would win with a height over 131,072
abbrev pub Finding : Type 0
Finding = Result Bool Refusal

-- what two stretches find, one after the other: the first step too high, else whether one of them wrote
abbrev pub merged : Finding → Finding → Finding
merged (Ok a) (Ok b) = Ok (a || b)
merged (Ok a) (Err r) = Err r
merged (Err r) b = Err r

-- a candidate v for cell c: not smaller, written, or too high
abbrev pub StepMade : List ℕ → ℕ → ℕ → List ℕ → Finding → Type 0
StepMade t c v t' (Ok false) = (get_or t c 0 ≤ v) × (t' ≡ t)
StepMade t c v t' (Ok true) = (v < get_or t c 0) × (height_of v ≤ HIGHEST) × (t' ≡ set t c v)
StepMade t c v t' (Err r) = (v < get_or t c 0) × (HIGHEST < height_of v) × (t' ≡ t) × (r ≡ record { reason = TooHigh; place = c })

-- the steps of the pair rule p: at i and k with j below c, at i with k below c, with i below c
abbrev pub ask : PairRule → ℕ → ℕ → ℕ → Step
ask p i k j = record { rule = p.number; head = p.head; left = p.left; right = p.right; from = i; middle = k; to = j }

abbrev pub row_steps : PairRule → ℕ → ℕ → ℕ → List Step
row_steps p i k c = each c λ j. ask p i k j ∷ []

abbrev pub node_steps : PairRule → ℕ → ℕ → ℕ → List Step
node_steps p n i c = each c λ k. row_steps p i k n

abbrev pub pair_steps : PairRule → ℕ → ℕ → List Step
pair_steps p n c = each c λ i. node_steps p n i n

-- of the steps ss from the table t on, one would win with a height over 131,072, and r says so at its cell
pub record Higher (n : ℕ) (t : List ℕ) (ss : List Step) (r : Refusal) : Type 0 where
  pub done : List Step
  pub step : Step
  pub rest : List Step
  pub split : ss ≡ done ++ (step ∷ rest)
  pub high : too_high n (after n t done) step ≡ true
  pub is : r ≡ record { reason = TooHigh; place = target_of n step }

-- the steps ss change nothing, or lower the total of the words, or one of them is too high
abbrev pub Found : Size → List Step → List ℕ → List ℕ → Finding → Type 0
Found z ss t t' (Ok false) = (after z.nodes t ss ≡ t) × (t' ≡ t)
Found z ss t t' (Ok true) = (t' ≡ after z.nodes t ss) × (total t' (count z) < total t (count z))
Found z ss t t' (Err r) = Higher z.nodes t ss r

pub record Swept (z : Size) (ss : List Step) (t t' : List ℕ) (a : Finding) : Type 0 where
  pub found : Found z ss t t' a
  pub low : LowTable z t'
  pub kept : drop (count z) t' ≡ drop (count z) t

-- c passes, one after the other
abbrev pub passes : List ℕ → ℕ → ℕ → List Step
passes rules n c = each c λ x. steps_of rules n

-- a table that a whole pass leaves as it is, after some passes; or one of their steps is too high
abbrev pub Ended : Size → List ℕ → List ℕ → List ℕ → ℕ → Check → Type 0
Ended z rules t t' c (Ok _) = (t' ≡ after z.nodes t (passes rules z.nodes c)) × (after z.nodes t' (steps_of rules z.nodes) ≡ t')
Ended z rules t t' c (Err r) = Higher z.nodes t (passes rules z.nodes c) r

pub record Settled (z : Size) (rules t t' : List ℕ) (a : Check) : Type 0 where
  pub passed : ℕ
  pub ended : Ended z rules t t' passed a
  pub kept : drop (count z) t' ≡ drop (count z) t
