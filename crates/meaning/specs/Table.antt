-- The table: cell numbers, the start, and what a cell may hold. Assumes nothing.
use Rattle.std.specs.Prelude.{◌≡◌, List, ◌⊎◌, cond, ℕ, zero, suc, ◌+◌, ◌*◌, ◌≤◌, ◌<◌, length, get_or, ltb}
use Rattle.key.specs.Keys.{EMPTY, key, height_of}
use Rattle.meaning.specs.Net.{Net, Edge}
use Rattle.meaning.specs.Trees.{Tree, key_of}

-- the number of cell (A, i, j) among n nodes: by A, then i, then j
unfoldable pub cell : ℕ → ℕ → ℕ → ℕ → ℕ
cell n A i j = (A * n + i) * n + j

-- the word of cell (A, i, j)
abbrev pub at : ℕ → List ℕ → ℕ → ℕ → ℕ → ℕ
at n t A i j = get_or t (cell n A i j) 0

-- the number of cells of n nodes and m nonterminals
abbrev pub cell_count : ℕ → ℕ → ℕ
cell_count n m = m * n * n

abbrev pub cells : Net → ℕ
cells g = cell_count g.nodes g.nonterminals

-- P at every cell of a table
abbrev pub Each : Net → (ℕ → ℕ → ℕ → Type 0) → Type 0
Each g P = (A i j : ℕ) → A < g.nonterminals → i < g.nodes → j < g.nodes → P A i j

-- κ is a height 1 key of (A, i, j): an edge from i to j has the label of a label rule r for A; the middle is i
pub record LeafKey (g : Net) (A i j κ : ℕ) : Type 0 where
  pub r : ℕ
  pub x : ℕ
  pub e : ℕ
  pub rule : g.Leaf r A x
  pub edge : Edge g.edges e i x j
  pub is : κ ≡ key 1 i r

-- what the start leaves in a cell: the least of its height 1 keys, that is with the lowest rule, or EMPTY where it has none
pub record StartCell (g : Net) (A i j v : ℕ) : Type 0 where
  pub real : (v ≡ EMPTY) ⊎ LeafKey g A i j v
  pub least : (κ : ℕ) → LeafKey g A i j κ → v ≤ κ

pub record StartTable (g : Net) (t : List ℕ) : Type 0 where
  pub long : cells g ≤ length t
  pub cell : Each g (λ A i j. StartCell g A i j (at g.nodes t A i j))

-- a word is the key of a tree
pub record Real (g : Net) (A i j v : ℕ) : Type 0 where
  pub tree : Tree g A i j
  pub is : v ≡ key_of tree
  pub low : v < EMPTY

-- a sound cell: empty, or filled with the key of some tree, so that a path with a tree of this height exists
abbrev pub Sound : Net → ℕ → ℕ → ℕ → ℕ → Type 0
Sound g A i j v = (v ≡ EMPTY) ⊎ Real g A i j v

pub record SoundTable (g : Net) (t : List ℕ) : Type 0 where
  pub long : cells g ≤ length t
  pub cell : Each g (λ A i j. Sound g A i j (at g.nodes t A i j))

-- a table that holds its height 1 cells: none of them is empty or has a larger key
pub record HoldsLeaves (g : Net) (t : List ℕ) : Type 0 where
  pub cell : (A i j κ : ℕ) → LeafKey g A i j κ → (at g.nodes t A i j ≤ κ) × (at g.nodes t A i j < EMPTY)

-- f 0 + .. + f (c - 1)
abbrev pub sum : (ℕ → ℕ) → ℕ → ℕ
sum f zero = 0
sum f (suc c) = sum f c + f c

-- how many of the first c words are filled
abbrev pub filled : List ℕ → ℕ → ℕ
filled t c = sum (λ a. cond (ltb (get_or t a 0) EMPTY) 1 0) c

-- the sum of the first c words: what a pass that changes the table lowers
abbrev pub total : List ℕ → ℕ → ℕ
total t c = sum (λ a. get_or t a 0) c

-- no height exceeds the number of filled cells
pub record High (g : Net) (t : List ℕ) : Type 0 where
  pub cell : Each g (λ A i j. at g.nodes t A i j < EMPTY → height_of (at g.nodes t A i j) ≤ filled t (cells g))
