-- The pass that code makes by nested loops over a list of rules, and whether steps change a table. Assumes nothing.
use Rattle.std.specs.Prelude.{List, [], ◌∷◌, ◌++◌, Bool, false, cond, ◌||◌, ℕ, zero, suc, ◌/◌, length, eqb}
use Rattle.meaning.specs.Net.{word}
use Rattle.meaning.specs.Steps.{Step, step, wins}

-- the step that rule r of a list takes at the nodes i, k, j
unfoldable pub ask_of : List ℕ → ℕ → ℕ → ℕ → ℕ → Step
ask_of rules r i k j = record {
  rule = r;
  head = word rules r 0;
  left = word rules r 1;
  right = word rules r 2;
  from = i;
  middle = k;
  to = j;
}

-- f 0, then f 1, .., then f (c - 1)
abbrev pub each : ℕ → (ℕ → List Step) → List Step
each zero f = []
each (suc c) f = each c f ++ f c

-- the steps of rule r, in the order i, k, j; none of a label rule
abbrev pub rule_steps : List ℕ → ℕ → ℕ → List Step
rule_steps rules n r = cond (eqb (word rules r 2) 65535) [] (each n λ i. each n λ k. each n λ j. ask_of rules r i k j ∷ [])

-- the steps of every pair rule
unfoldable pub steps_of : List ℕ → ℕ → List Step
steps_of rules n = each (length rules / 3) (rule_steps rules n)

-- one of the steps ss, one after the other, changes the table
abbrev pub changes : ℕ → List ℕ → List Step → Bool
changes n t [] = false
changes n t (s ∷ ss) = wins n t s || changes n (step n t s) ss
