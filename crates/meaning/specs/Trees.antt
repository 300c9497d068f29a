-- Derivation trees over words, paths, and the two together. Assumes nothing.
use Rattle.std.specs.Prelude.{◌≡◌, List, [], ◌∷◌, ◌++◌, ℕ, ◌+◌, ◌/◌, ◌≤◌, ◌<◌, max, length}
use Rattle.key.specs.Keys.{key}
use Rattle.meaning.specs.Net.{Net, Edge, word}

-- the height of a tree whose root is a pair rule, from the heights of its two sides
unfoldable pub joined : ℕ → ℕ → ℕ
joined a b = 1 + max a b

-- Derives g A h w: a derivation tree of height h from A over the word w; a tree of one label rule has height 1
pub data Derives (g : Net) : ℕ → ℕ → List ℕ → Type 0 where
  by_label : {A x : ℕ} (r : ℕ) → g.Leaf r A x → Derives g A 1 (x ∷ [])
  by_pair : {A B C a b : ℕ} {u v : List ℕ} (r : ℕ) → g.Pair r A B C → Derives g B a u → Derives g C b v
      → Derives g A (joined a b) (u ++ v)

-- the edge numbers p are a path from i to j
abbrev pub Path : Net → ℕ → ℕ → List ℕ → Type 0
Path g i j [] = i ≡ j
Path g i j (e ∷ p) = (e < length g.edges / 3) × (word g.edges e 0 ≡ i) × Path g (word g.edges e 2) j p

-- the word that a path spells
abbrev pub spell : Net → List ℕ → List ℕ
spell g [] = []
spell g (e ∷ p) = word g.edges e 1 ∷ spell g p

-- the path p from i to j spells a word derived from A by a tree of height h
pub record Reach (g : Net) (A i j h : ℕ) (p : List ℕ) : Type 0 where
  pub path : Path g i j p
  pub tree : Derives g A h (spell g p)

-- (A, i, j) is reached: a path from i to j spells a word that A derives
pub record Reached (g : Net) (A i j : ℕ) : Type 0 where
  pub height : ℕ
  pub edges : List ℕ
  pub reach : Reach g A i j height edges

-- h is the least height of a tree from A over a word that a path from i to j spells
pub record Least (g : Net) (A i j h : ℕ) : Type 0 where
  pub edges : List ℕ
  pub reach : Reach g A i j h edges
  pub least : (k : ℕ) (p : List ℕ) → Reach g A i j k p → h ≤ k

-- the same as one tree with its edges at the leaves: the form that the theorems use
pub data Tree (g : Net) : ℕ → ℕ → ℕ → Type 0 where
  leaf : {A i j x : ℕ} (r e : ℕ) → g.Leaf r A x → Edge g.edges e i x j → Tree g A i j
  pair : {A B C i j : ℕ} (r k : ℕ) → g.Pair r A B C → Tree g B i k → Tree g C k j → Tree g A i j

module _ {g : Net} where
  abbrev pub height : {A i j : ℕ} → Tree g A i j → ℕ
  height (leaf r e l d) = 1
  height (pair r k l s t) = joined (height s) (height t)

  abbrev pub edges_of : {A i j : ℕ} → Tree g A i j → List ℕ
  edges_of (leaf r e l d) = e ∷ []
  edges_of (pair r k l s t) = edges_of s ++ edges_of t

  -- the key that a tree gives its cell: its height, the node where its root's sides meet (i for a label rule), its root's rule
  abbrev pub key_of : {A i j : ℕ} → Tree g A i j → ℕ
  key_of (leaf {i} r e l d) = key 1 i r
  key_of (pair r k l s t) = key (joined (height s) (height t)) k r
