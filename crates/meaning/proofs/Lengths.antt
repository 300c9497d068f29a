-- Lengths are unique. Assumes nothing.
use mathlib.Core.Path.{◌≡◌, sym, ◌∙◌}
use mathlib.Core.List.{List}
use mathlib.Core.Logic.{◌≢◌}
use Prim.Native.Nat.{ℕ, zero, suc, ◌<◌}
use native.Mathlib.Omega.{arith}
use lib.ListN.{drop}
use Rattle.key.specs.Keys.{EMPTY, height_of, middle_of, rule_of}
use Rattle.meaning.specs.Net.{Net, Sane}
use Rattle.meaning.specs.Table.{at, cells, Each}
use Rattle.meaning.specs.Lengths.{LengthCell, none, one, sum, Lengths}
use Rattle.meaning.proofs.Fronts.{tables_same}

-- P of the two sides B and C of a pair cell
abbrev pub AtPair : Net → List ℕ → (ℕ → ℕ → Type 0) → ℕ → ℕ → ℕ → Type 0
AtPair g t P A i j = (B C : ℕ) → at g.nodes t A i j < EMPTY → height_of (at g.nodes t A i j) ≢ 1
    → g.Pair (rule_of (at g.nodes t A i j)) A B C → P B C

-- the sides of the cell (A, i, j) at k are cells of smaller height
pub record Lower (g : Net) (t : List ℕ) (A B C i j k : ℕ) : Type 0 where
  pub middle : k < g.nodes
  pub left : height_of (at g.nodes t B i k) < height_of (at g.nodes t A i j)
  pub right : height_of (at g.nodes t C k j) < height_of (at g.nodes t A i j)

-- all that lengths need of a table: from a cell to its sides the height falls
pub record Falling (g : Net) (t : List ℕ) : Type 0 where
  pub cell : Each g (λ A i j. AtPair g t (λ B C. Lower g t A B C i j (middle_of (at g.nodes t A i j))) A i j)

module _ {g : Net} (ok : Sane g) {t ls ls' : List ℕ} (low : Falling g t) (x : Lengths g t ls) (y : Lengths g t ls') where
  abbrev Same : ℕ → ℕ → ℕ → Type 0
  Same A i j = at g.nodes ls A i j ≡ at g.nodes ls' A i j

  abbrev SameSides : ℕ → ℕ → ℕ → Type 0
  SameSides A i j = AtPair g t (λ B C. Same B i (middle_of (at g.nodes t A i j)) × Same C (middle_of (at g.nodes t A i j)) j) A i j

  by_cells : (A i j : ℕ) → SameSides A i j → LengthCell g t ls A i j → LengthCell g t ls' A i j → Same A i j
  by_cells A i j s (none e a) (none e' b) = a ∙ sym b
  by_cells A i j s (none e a) (one h b) = absurd (omega arith)
  by_cells A i j s (none e a) (sum B C k l n r m b) = absurd (omega arith)
  by_cells A i j s (one h a) (none e' b) = absurd (omega arith)
  by_cells A i j s (one h a) (one h' b) = a ∙ sym b
  by_cells A i j s (one h a) (sum B C k l n r m b) = absurd (n h)
  by_cells A i j s (sum B C k l n r m a) (none e' b) = absurd (omega arith)
  by_cells A i j s (sum B C k l n r m a) (one h b) = absurd (n h)
  by_cells A i j s (sum B C k l n r m a) (sum B' C' k' l' n' r' m' b) =
      let p = ok.one_pair _ A B C B' C' r r' in
      let q = s B C l n r in
      rw (a, b, ← p.0, ← p.1, m, m', q.0, q.1)

  by_height : (f : ℕ) → Each g (λ A i j. height_of (at g.nodes t A i j) < f → Same A i j)
  by_height zero A i j hA hi hj h = absurd (omega arith)
  by_height (suc f) A i j hA hi hj h = by_cells A i j (λ B C l n r.
      let d = low.cell A i j hA hi hj B C l n r in
      let p = ok.pairs _ A B C r in
      (by_height f B i _ p.left hi d.middle (omega (arith, d.left)), by_height f C _ j p.right d.middle hj (omega (arith, d.right))))
      (x.cell A i j hA hi hj) (y.cell A i j hA hi hj)

  -- two lists of lengths agree at every cell
  pub lengths_one : Each g Same
  lengths_one A i j hA hi hj = by_height (suc (height_of (at g.nodes t A i j))) A i j hA hi hj (omega arith)

  -- and are one list if their rest is the same
  pub lengths_list : drop (cells g) ls ≡ drop (cells g) ls' → ls ≡ ls'
  lengths_list = tables_same g ls ls' x.long y.long lengths_one
