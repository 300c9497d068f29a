-- The final key of a cell, in two ways: as the least key of any tree, and as selected by height, middle and rule. Assumes nothing.
use Rattle.std.specs.Prelude.{◌≡◌, List, ℕ, ◌≤◌, ◌<◌, length}
use Rattle.key.specs.Keys.{EMPTY, key}
use Rattle.meaning.specs.Net.{Net}
use Rattle.meaning.specs.Trees.{joined, Tree, key_of, Least}
use Rattle.meaning.specs.Table.{at, cells, Each, LeafKey, Sound}

-- the least of the keys that trees give the cell; a cell with no tree is empty
pub record FinalCell (g : Net) (A i j v : ℕ) : Type 0 where
  pub real : Sound g A i j v
  pub least : (τ : Tree g A i j) → (v ≤ key_of τ) × (v < EMPTY)

pub record FinalTable (g : Net) (t : List ℕ) : Type 0 where
  pub long : cells g ≤ length t
  pub cell : Each g (λ A i j. FinalCell g A i j (at g.nodes t A i j))

-- the key that a pair rule A → B C and a node k offer the cell: one above the larger of the least heights of the sides (B, i, k) and
-- (C, k, j), with middle k
pub record Candidate (g : Net) (A i j κ : ℕ) : Type 0 where
  pub r : ℕ
  pub B : ℕ
  pub C : ℕ
  pub k : ℕ
  pub a : ℕ
  pub b : ℕ
  pub rule : g.Pair r A B C
  pub left : Least g B i k a
  pub right : Least g C k j b
  pub is : κ ≡ key (joined a b) k r

-- the key that is selected: the least height 1 key where an edge from i to j carries the label of a label rule for A; else the least
-- that pair rules offer: least height, then least middle, then lowest rule
pub data Selected (g : Net) (A i j κ : ℕ) : Type 0 where
  by_edge : LeafKey g A i j κ → ((κ' : ℕ) → LeafKey g A i j κ' → κ ≤ κ') → Selected g A i j κ
  by_rule : ((κ' : ℕ) → ¬ LeafKey g A i j κ') → Candidate g A i j κ → ((κ' : ℕ) → Candidate g A i j κ' → κ ≤ κ') → Selected g A i j κ
