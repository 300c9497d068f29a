-- Lengths, depth, the path that a table records, and what the table check accepts. Assumes nothing.
use Rattle.std.specs.Prelude.{◌≡◌, List, [], ◌∷◌, ◌++◌, cond, ◌≢◌, ℕ, zero, suc, ◌+◌, ◌≤◌, ◌<◌, min, max, length, get_or, ltb}
use Rattle.key.specs.Keys.{EMPTY, height_of, middle_of, rule_of}
use Rattle.meaning.specs.Net.{Net, Edge}
use Rattle.meaning.specs.Trees.{joined, Least}
use Rattle.meaning.specs.Table.{at, cells, Each}

abbrev pub HELD : ℕ
HELD = 4294967295

-- the sum of two lengths, or 4,294,967,295 where it is more: a held length
unfoldable pub held_sum : ℕ → ℕ → ℕ
held_sum a b = min HELD (a + b)

-- the length word of a cell: 0 if it is empty, 1 at height 1, and above that the held sum of its sides' lengths
pub data LengthCell (g : Net) (t ls : List ℕ) (A i j : ℕ) : Type 0 where
  none : at g.nodes t A i j ≡ EMPTY → at g.nodes ls A i j ≡ 0 → LengthCell g t ls A i j
  one : height_of (at g.nodes t A i j) ≡ 1 → at g.nodes ls A i j ≡ 1 → LengthCell g t ls A i j
  sum : (B C k : ℕ) → at g.nodes t A i j < EMPTY → height_of (at g.nodes t A i j) ≢ 1
      → g.Pair (rule_of (at g.nodes t A i j)) A B C → k ≡ middle_of (at g.nodes t A i j)
      → at g.nodes ls A i j ≡ held_sum (at g.nodes ls B i k) (at g.nodes ls C k j)
      → LengthCell g t ls A i j

pub record Lengths (g : Net) (t ls : List ℕ) : Type 0 where
  pub long : cells g ≤ length ls
  pub cell : Each g (LengthCell g t ls)

-- the depth of the first c words: the largest height among them, 0 if none is filled
abbrev pub depth : List ℕ → ℕ → ℕ
depth t zero = 0
depth t (suc c) = max (depth t c) (cond (ltb (get_or t c 0) EMPTY) (height_of (get_or t c 0)) 0)

-- d is the largest least height of a tree: none is above it, and d is one of them unless it is 0
pub record Deepest (g : Net) (d : ℕ) : Type 0 where
  pub bound : Each g (λ A i j. (h : ℕ) → Least g A i j h → h ≤ d)
  pub reached : 0 < d → (A : ℕ) × ((i : ℕ) × ((j : ℕ) × Least g A i j d))

-- what makes cell (A, i, j) right: it is empty and its length 0; or it has height 1, middle i, length 1 and a label rule for A whose
-- label an edge from i to j has; or it is higher, has a pair rule for A and a node as its middle, both its sides are filled, its height
-- is one above the higher side and its length the held sum of theirs
pub data RightCell (g : Net) (t ls : List ℕ) (A i j : ℕ) : Type 0 where
  empty : at g.nodes t A i j ≡ EMPTY → at g.nodes ls A i j ≡ 0 → RightCell g t ls A i j
  leaf : (x e : ℕ) → height_of (at g.nodes t A i j) ≡ 1 → g.Leaf (rule_of (at g.nodes t A i j)) A x
      → middle_of (at g.nodes t A i j) ≡ i → Edge g.edges e i x j → at g.nodes ls A i j ≡ 1
      → RightCell g t ls A i j
  pair : (B C k : ℕ) → at g.nodes t A i j < EMPTY → 1 < height_of (at g.nodes t A i j)
      → g.Pair (rule_of (at g.nodes t A i j)) A B C → k ≡ middle_of (at g.nodes t A i j) → k < g.nodes
      → at g.nodes t B i k < EMPTY → at g.nodes t C k j < EMPTY
      → height_of (at g.nodes t A i j) ≡ joined (height_of (at g.nodes t B i k)) (height_of (at g.nodes t C k j))
      → at g.nodes ls A i j ≡ held_sum (at g.nodes ls B i k) (at g.nodes ls C k j)
      → RightCell g t ls A i j

-- what the table check accepts: both lists are long enough and every cell is right
pub record RightTable (g : Net) (t ls : List ℕ) : Type 0 where
  pub long : cells g ≤ length t
  pub lengths : cells g ≤ length ls
  pub cell : Each g (RightCell g t ls)

-- e is the first edge in the list from i to j with label x
pub record LowestEdge (edges : List ℕ) (i x j e : ℕ) : Type 0 where
  pub edge : Edge edges e i x j
  pub least : (f : ℕ) → Edge edges f i x j → e ≤ f

-- the path that the table records for a cell: at height 1 the lowest edge, above it the path of the left side, then of the right
pub data Recorded (g : Net) (t : List ℕ) : ℕ → ℕ → ℕ → List ℕ → Type 0 where
  leaf : {A i j x e : ℕ} → height_of (at g.nodes t A i j) ≡ 1 → g.Leaf (rule_of (at g.nodes t A i j)) A x
      → LowestEdge g.edges i x j e → Recorded g t A i j (e ∷ [])
  pair : {A B C i j k : ℕ} {p q : List ℕ} → height_of (at g.nodes t A i j) ≢ 1
      → g.Pair (rule_of (at g.nodes t A i j)) A B C → k ≡ middle_of (at g.nodes t A i j)
      → Recorded g t B i k p → Recorded g t C k j q → Recorded g t A i j (p ++ q)
