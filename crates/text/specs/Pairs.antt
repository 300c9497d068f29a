-- The lines of the report's pairs: the filled cells of the queried nonterminal, to the byte, and how many there are. Assumes nothing.
use Rattle.std.specs.Prelude.{◌≡◌, List, [], ◌++◌, ℕ, zero, suc, ◌/◌, ◌%◌, ◌≤◌, ◌<◌}
use Rattle.key.specs.Keys.{EMPTY, height_of, middle_of}
use Rattle.meaning.specs.Net.{Net}
use Rattle.meaning.specs.Table.{at}
use Rattle.meaning.specs.Lengths.{Recorded}
use Rattle.text.specs.Text.{ascii, pair_head, path_text}

module _ (g : Net) (t ls : List ℕ) (A : ℕ) where
  -- behind the colon: the edge numbers of the recorded path, or `long` where it has over 1,024
  pub data Tail (i j : ℕ) : List ℕ → Type 0 where
    shown : {p : List ℕ} → at g.nodes ls A i j ≤ 1024 → Recorded g t A i j p → Tail i j (path_text p)
    long : 1024 < at g.nodes ls A i j → Tail i j (ascii " long")

  -- i, j, height, middle, length, and what stands behind the colon
  unfoldable pub pair_line : ℕ → ℕ → List ℕ → List ℕ
  pair_line i j tail =
      pair_head i j (height_of (at g.nodes t A i j)) (middle_of (at g.nodes t A i j)) (at g.nodes ls A i j)
      ++ tail ++ ascii "\n"

  -- a line for each filled cell of the queried nonterminal, by i, then j: those of the first c cells, and how many there are,
  -- which is what the closing line counts as pairs
  pub data Lines : ℕ → List ℕ → ℕ → Type 0 where
    none : Lines zero [] 0
    empty : {c k : ℕ} {w : List ℕ} → at g.nodes t A (c / g.nodes) (c % g.nodes) ≡ EMPTY → Lines c w k → Lines (suc c) w k
    pair : {c k : ℕ} {w tail : List ℕ} → at g.nodes t A (c / g.nodes) (c % g.nodes) < EMPTY
        → Tail (c / g.nodes) (c % g.nodes) tail → Lines c w k
        → Lines (suc c) (w ++ pair_line (c / g.nodes) (c % g.nodes) tail) (suc k)
