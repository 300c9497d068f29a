-- The single step by its rule, sequences of steps, a pass, and a table that no step would change. Assumes nothing.
use Rattle.std.specs.Prelude.{◌≡◌, Bool, true, false, cond, ◌&&◌, ◌||◌, ℕ, ◌<◌, min, get_or, set, eqb, leb, ltb}
use mathlib.Core.List.{List, [], ◌∷◌, Memᴰ}
use Rattle.key.specs.Keys.{EMPTY, HIGHEST, key, height_of, middle_of, rule_of}
use Rattle.meaning.specs.Net.{Net}
use Rattle.meaning.specs.Trees.{joined}
use Rattle.meaning.specs.Table.{cell}

-- a step: the pair rule head → left right with its number, and the nodes i, k, j as from, middle, to
pub record Step : Type 0 where
  pub rule : ℕ
  pub head : ℕ
  pub left : ℕ
  pub right : ℕ
  pub from : ℕ
  pub middle : ℕ
  pub to : ℕ

pub record Possible (g : Net) (s : Step) : Type 0 where
  pub rule : g.Pair s.rule s.head s.left s.right
  pub from : s.from < g.nodes
  pub middle : s.middle < g.nodes
  pub to : s.to < g.nodes

-- the candidate key from the words of the two sides, EMPTY unless both are filled
unfoldable pub candidate : ℕ → ℕ → ℕ → ℕ → ℕ
candidate x y k r = cond (ltb x EMPTY) (cond (ltb y EMPTY) (key (joined (height_of x) (height_of y)) k r) EMPTY) EMPTY

abbrev pub target_of : ℕ → Step → ℕ
target_of n s = cell n s.head s.from s.to

abbrev pub left_of : ℕ → Step → ℕ
left_of n s = cell n s.left s.from s.middle

abbrev pub right_of : ℕ → Step → ℕ
right_of n s = cell n s.right s.middle s.to

unfoldable pub offer : ℕ → List ℕ → Step → ℕ
offer n t s = candidate (get_or t (left_of n s) 0) (get_or t (right_of n s) 0) s.middle s.rule

-- the table after a step: the smaller of its target's word and the candidate key in the target, every other word as it was
unfoldable pub step : ℕ → List ℕ → Step → List ℕ
step n t s = set t (target_of n s) (min (get_or t (target_of n s) 0) (offer n t s))

-- whether the step changes the table: the candidate is below the word of the target
unfoldable pub wins : ℕ → List ℕ → Step → Bool
wins n t s = ltb (offer n t s) (get_or t (target_of n s) 0)

-- the words of a target or side that a step works with: EMPTY, or height 1 to 131,072, middle a node and rule a rule of the list
unfoldable pub usable : ℕ → ℕ → ℕ → Bool
usable n rules v =
    eqb v EMPTY || (leb 1 (height_of v) && leb (height_of v) HIGHEST && ltb (middle_of v) n && ltb (rule_of v) rules)

-- refusal 12, TooHigh: the step would write a key of a height above 131,072
unfoldable pub too_high : ℕ → List ℕ → Step → Bool
too_high n t s = wins n t s && ltb HIGHEST (height_of (offer n t s))

-- neither refusal 11, WrongCell, nor 12, TooHigh
pub record Accepted (g : Net) (t : List ℕ) (s : Step) : Type 0 where
  pub target : usable g.nodes g.rules (get_or t (target_of g.nodes s) 0) ≡ true
  pub left : usable g.nodes g.rules (get_or t (left_of g.nodes s) 0) ≡ true
  pub right : usable g.nodes g.rules (get_or t (right_of g.nodes s) 0) ≡ true
  pub low : too_high g.nodes t s ≡ false

-- the table after the steps ss, one after the other
abbrev pub after : ℕ → List ℕ → List Step → List ℕ
after n t [] = t
after n t (s ∷ ss) = after n (step n t s) ss

-- and after several stretches of steps
abbrev pub after_all : ℕ → List ℕ → List (List Step) → List ℕ
after_all n t [] = t
after_all n t (ss ∷ more) = after_all n (after n t ss) more

abbrev pub All : (Step → Type 0) → List Step → Type 0
All P [] = Unit {0}
All P (s ∷ ss) = P s × All P ss

-- a pass: a stretch of possible steps in which every possible step stands at least once
pub record Pass (g : Net) (ss : List Step) : Type 0 where
  pub only : All (Possible g) ss
  pub every : (s : Step) → Possible g s → Memᴰ s ss

abbrev pub Passes : Net → List (List Step) → Type 0
Passes g [] = Unit {0}
Passes g (ss ∷ more) = Pass g ss × Passes g more

-- a still table: no possible step would change it
pub record Still (g : Net) (t : List ℕ) : Type 0 where
  pub step : (s : Step) → Possible g s → step g.nodes t s ≡ t
