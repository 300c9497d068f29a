-- The start is sound, holds its height 1 cells, and no height in it exceeds the number of filled cells. Assumes nothing.
use mathlib.Core.Path.{◌≡◌}
use mathlib.Core.List.{List}
use mathlib.Core.Logic.{◌⊎◌, inl, inr}
use Prim.Native.Nat.{ℕ, ◌≤◌, ◌<◌}
use native.Mathlib.Omega.{arith}
use Rattle.key.specs.Keys.{EMPTY, height_of}
use Rattle.meaning.specs.Net.{Net, Sane}
use Rattle.meaning.specs.Trees.{Tree, leaf}
use Rattle.meaning.specs.Table.{cell, at, cells, Each, LeafKey, StartTable, Sound, SoundTable, HoldsLeaves, High, filled}
use Rattle.meaning.proofs.Trees.{tree_inside, key_bounds}
use Rattle.meaning.proofs.Cells.{cell_in}
use Rattle.meaning.proofs.Sums.{filled_one}

module _ {g : Net} where
  -- the tree of a height 1 key
  abbrev pub leaf_tree : {A i j κ : ℕ} → LeafKey g A i j κ → Tree g A i j
  leaf_tree y = leaf y.r y.e y.rule y.edge

module _ {g : Net} (ok : Sane g) where
  pub leaf_low : {A i j κ : ℕ} → LeafKey g A i j κ → (κ < EMPTY) × (height_of κ ≡ 1)
  leaf_low y = omega (arith, y.is, key_bounds ok (leaf_tree y))

  module _ (t : List ℕ) (start : StartTable g t) where
    pub start_sound : SoundTable g t
    start_sound = record { long = start.long; cell = λ A i j hA hi hj. go (start.cell A i j hA hi hj).real }
      where
        go : {A i j v : ℕ} → (v ≡ EMPTY) ⊎ LeafKey g A i j v → Sound g A i j v
        go (inl e) = inl e
        go (inr y) = inr (record { tree = leaf_tree y; is = y.is; low = (leaf_low y).0 })

    pub start_leaves : HoldsLeaves g t
    start_leaves = record { cell = holds }
      where
        holds : (A i j κ : ℕ) → LeafKey g A i j κ → (at g.nodes t A i j ≤ κ) × (at g.nodes t A i j < EMPTY)
        holds A i j κ y =
            let b = tree_inside ok (leaf_tree y) in
            let l = (start.cell A i j b.head b.from b.to).least κ y in
            (l, omega (arith, (leaf_low y).0))

    pub start_high : High g t
    start_high = record { cell = low }
      where
        low : Each g (λ A i j. at g.nodes t A i j < EMPTY → height_of (at g.nodes t A i j) ≤ filled t (cells g))
        low A i j hA hi hj f = go (start.cell A i j hA hi hj).real
          where
            go : (at g.nodes t A i j ≡ EMPTY) ⊎ LeafKey g A i j (at g.nodes t A i j) → height_of (at g.nodes t A i j) ≤ filled t (cells g)
            go (inl e) = absurd (omega arith)
            go (inr y) = omega (arith, (leaf_low y).1, filled_one t (cell g.nodes A i j) f (cells g) (cell_in g.nodes g.nonterminals A i j hA hi hj))
