-- Errors that look right: three ways to close a table that differ from the run's in one point, and a graph that shows all three. The
-- fourth, a label for an unmapped kind, is example i. Assumes nothing.
use Rattle.std.specs.Prelude.{List, [], ◌∷◌, cond, ℕ, min, get_or, set, eqb}
use Rattle.key.specs.Keys.{EMPTY, key, middle_of, rule_of}
use Rattle.meaning.specs.Net.{Net, net_of}
use Rattle.meaning.specs.Steps.{Step, target_of, left_of, right_of, offer, step, wins}
use Rattle.meaning.specs.Passes.{steps_of}
use Rattle.meaning.specs.Lengths.{held_sum}
use Rattle.meaning.specs.Computed.{start_table}

-- x after the steps ss, one after the other, where each does f
abbrev pub closing : {X : Type 0} → (X → Step → X) → X → List Step → X
closing f x [] = x
closing f x (s ∷ ss) = closing f (f x s) ss

-- keeping the first tree that is found: a cell that is filled stays
unfoldable pub first_tree : ℕ → List ℕ → Step → List ℕ
first_tree n t s = cond (eqb (get_or t (target_of n s) 0) EMPTY) (step n t s) t

-- taking the number of the pass for the height: what is found in pass p, the start being pass 1, gets height p
unfoldable pub counted : ℕ → ℕ → ℕ
counted p κ = cond (eqb κ EMPTY) EMPTY (key p (middle_of κ) (rule_of κ))

unfoldable pub pass_number : ℕ → ℕ → List ℕ → Step → List ℕ
pass_number p n t s = set t (target_of n s) (min (get_or t (target_of n s) 0) (counted p (offer n t s)))

-- writing the length beside each step's key, and only where the key falls: a side's length may change later, at the same height
pub record Stored : Type 0 where
  pub table : List ℕ
  pub lengths : List ℕ

unfoldable pub storing : ℕ → Stored → Step → Stored
storing n x s = cond (wins n x.table s)
    (record {
      table = step n x.table s;
      lengths = set x.lengths (target_of n s) (held_sum (get_or x.lengths (left_of n s) 0) (get_or x.lengths (right_of n s) 0));
    })
    x

-- the graph: 2 nodes, edges 0 → 1 and 1 → 0 with label 1; rules 1 → label 1, then (2,1,1), (1,0,0), (0,1,2), (1,1,0)
unfoldable pub rules : List ℕ
rules = 1 ∷ 1 ∷ 65535 ∷ 2 ∷ 1 ∷ 1 ∷ 1 ∷ 0 ∷ 0 ∷ 0 ∷ 1 ∷ 2 ∷ 1 ∷ 1 ∷ 0 ∷ []

unfoldable pub edges : List ℕ
edges = 0 ∷ 1 ∷ 1 ∷ 1 ∷ 1 ∷ 0 ∷ []

abbrev pub loop : Net
loop = net_of 2 3 rules edges

unfoldable pub start : List ℕ
start = start_table 2 3 rules edges

-- a pass; a third one changes nothing here
unfoldable pub pass : List Step
pass = steps_of rules 2

-- its final table
unfoldable pub final : List ℕ
final =
    key 5 0 3 ∷ key 3 1 3 ∷ key 3 0 3 ∷ key 5 1 3
    ∷ key 4 1 2 ∷ key 1 0 0 ∷ key 1 1 0 ∷ key 4 0 2
    ∷ key 2 1 1 ∷ key 5 0 1 ∷ key 5 0 1 ∷ key 2 0 1 ∷ []

-- what two passes leave, done so
unfoldable pub by_first_tree : List ℕ
by_first_tree = closing (first_tree 2) (closing (first_tree 2) start pass) pass

unfoldable pub by_pass_number : List ℕ
by_pass_number = closing (pass_number 3 2) (closing (pass_number 2 2) start pass) pass

unfoldable pub by_storing : Stored
by_storing = closing (storing 2) (closing (storing 2) (record { table = start; lengths = 0 ∷ 0 ∷ 0 ∷ 0 ∷ 0 ∷ 1 ∷ 1 ∷ 0 ∷ 0 ∷ 0 ∷ 0 ∷ 0 ∷ [] }) pass) pass
