-- The second engine's answer: rows of bits. Assumes nothing.
use Rattle.std.specs.Prelude.{◌≡◌, List, ◌↔◌, ℕ, ◌+◌, ◌*◌, ◌/◌, ◌%◌, ◌^◌, ◌≤◌, ◌<◌, length, get_or}
use Rattle.meaning.specs.Net.{Net}
use Rattle.meaning.specs.Trees.{Reached}

abbrev pub bit : ℕ → ℕ → ℕ
bit w j = w / 2 ^ j % 2

-- the row of A and i: word A × n + i of the rows
abbrev pub row_at : ℕ → List ℕ → ℕ → ℕ → ℕ
row_at n rs A i = get_or rs (A * n + i) 0

-- bit j of a row is 1 exactly where (A, i, j) is reached, and no bit from the number of nodes on is set
pub record Row (g : Net) (A i w : ℕ) : Type 0 where
  pub bits : (j : ℕ) → j < g.nodes → (bit w j ≡ 1) ↔ Reached g A i j
  pub clear : w < 2 ^ g.nodes

pub record RowTable (g : Net) (rs : List ℕ) : Type 0 where
  pub long : g.nonterminals * g.nodes ≤ length rs
  pub row : (A i : ℕ) → A < g.nonterminals → i < g.nodes → Row g A i (row_at g.nodes rs A i)
