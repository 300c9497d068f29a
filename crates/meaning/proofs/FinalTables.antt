-- What a final table holds: which cells are filled, their heights, their keys. Assumes nothing.
use mathlib.Core.Path.{◌≡◌, refl, sym, ◌∙◌}
use mathlib.Core.List.{List}
use mathlib.Core.Logic.{inl, inr, ◌↔◌}
use Prim.Native.Nat.{ℕ, ◌<◌}
use native.Mathlib.Omega.{arith}
use native.Mathlib.Nat.{le_antisymm}
use lib.ListN.{drop}
use Rattle.key.specs.Keys.{EMPTY, key, height_of}
use Rattle.meaning.specs.Net.{Net, Sane}
use Rattle.meaning.specs.Trees.{joined, Reached, Least, Tree, leaf, pair, height, edges_of, key_of}
use Rattle.meaning.specs.Table.{at, cells, Each, LeafKey, Sound}
use Rattle.meaning.specs.Final.{FinalCell, FinalTable, Candidate, Selected, by_edge, by_rule}
use Rattle.meaning.proofs.Joined.{joined_left, joined_mono}
use Rattle.meaning.proofs.Trees.{reach_tree, tree_reach, tree_inside, height_pos, key_bounds}
use Rattle.meaning.proofs.Fronts.{tables_same}
use Rattle.meaning.proofs.Steps.{sound_real, real_height}
use Rattle.meaning.proofs.Start.{leaf_tree}

-- two words that are both final are equal
pub final_one : {g : Net} {A i j v w : ℕ} → FinalCell g A i j v → FinalCell g A i j w → v ≡ w
final_one {g} {A} {i} {j} {v} {w} f h = go f.real h.real
  where
    go : Sound g A i j v → Sound g A i j w → v ≡ w
    go (inl e) (inl d) = e ∙ sym d
    go (inl e) (inr r) = absurd (omega (arith, (f.least r.tree).1))
    go (inr r) (inl e) = absurd (omega (arith, (h.least r.tree).1))
    go (inr r) (inr q) = omega (arith, r.is, q.is, (f.least q.tree).0, (h.least r.tree).0)

-- two final tables agree on every cell
pub final_tables : {g : Net} (t t' : List ℕ) → FinalTable g t → FinalTable g t'
    → Each g (λ A i j. at g.nodes t A i j ≡ at g.nodes t' A i j)
final_tables t t' f f' A i j hA hi hj = final_one (f.cell A i j hA hi hj) (f'.cell A i j hA hi hj)

-- so a call that promises a final table, and to keep the words past it, promises one list
pub final_lists : {g : Net} (t t' : List ℕ) → FinalTable g t → FinalTable g t' → drop (cells g) t ≡ drop (cells g) t' → t ≡ t'
final_lists {g} t t' f f' = tables_same g t t' f.long f'.long (final_tables t t' f f')

-- the rule of selection selects one key at most
pub selected_one : {g : Net} {A i j κ κ' : ℕ} → Selected g A i j κ → Selected g A i j κ' → κ ≡ κ'
selected_one (by_edge a l) (by_edge b k) = le_antisymm (l _ b) (k _ a)
selected_one (by_edge a l) (by_rule x b k) = absurd (x _ a)
selected_one (by_rule x a l) (by_edge b k) = absurd (x _ b)
selected_one (by_rule x a l) (by_rule y b k) = le_antisymm (l _ b) (k _ a)

module _ {g : Net} where
  abbrev candidate_tree : {A i j κ : ℕ} → Candidate g A i j κ → Tree g A i j
  candidate_tree c = pair c.r c.k c.rule (reach_tree c.left.reach).tree (reach_tree c.right.reach).tree

  candidate_key : {A i j κ : ℕ} (c : Candidate g A i j κ) → key_of (candidate_tree c) ≡ κ
  candidate_key c = rw ((reach_tree c.left.reach).tall, (reach_tree c.right.reach).tall) (sym c.is)

  selected_tree : {A i j κ : ℕ} → Selected g A i j κ → Tree g A i j
  selected_tree (by_edge y l) = leaf_tree y
  selected_tree (by_rule none c l) = candidate_tree c

module _ {g : Net} (ok : Sane g) where
  -- a final cell is filled exactly if some path from i to j spells a word derived from A
  pub final_cell_filled : {A i j v : ℕ} → FinalCell g A i j v → (v < EMPTY) ↔ Reached g A i j
  final_cell_filled {A} {i} {j} {v} f = (there, λ r. (f.least (reach_tree r.reach).tree).1)
    where
      there : v < EMPTY → Reached g A i j
      there l =
          let r = sound_real f.real l in
          record { height = height r.tree; edges = edges_of r.tree; reach = tree_reach r.tree }

  -- it holds the least height
  pub final_cell_least : {A i j v : ℕ} → FinalCell g A i j v → v < EMPTY → Least g A i j (height_of v)
  final_cell_least f l =
      let r = sound_real f.real l in
      record {
        edges = edges_of r.tree;
        reach = rw (← (real_height ok r)) (tree_reach r.tree);
        least = λ k p x. let τ = reach_tree x in omega (arith, (f.least τ.tree).0, (key_bounds ok τ.tree).1, τ.tall);
      }

  module _ (t : List ℕ) (final : FinalTable g t) where
    pub final_filled : Each g (λ A i j. (at g.nodes t A i j < EMPTY) ↔ Reached g A i j)
    final_filled A i j hA hi hj = final_cell_filled (final.cell A i j hA hi hj)

    pub final_least : Each g (λ A i j. at g.nodes t A i j < EMPTY → Least g A i j (height_of (at g.nodes t A i j)))
    final_least A i j hA hi hj = final_cell_least (final.cell A i j hA hi hj)

    -- the cell of a tree
    held : {A i j : ℕ} → Tree g A i j → FinalCell g A i j (at g.nodes t A i j)
    held {A} {i} {j} τ = let b = tree_inside ok τ in final.cell A i j b.head b.from b.to

    side_least : {A i j : ℕ} → Tree g A i j → Least g A i j (height_of (at g.nodes t A i j))
    side_least τ = final_cell_least (held τ) ((held τ).least τ).1

    -- its middle and rule are the selected ones
    pub final_selected : Each g (λ A i j. at g.nodes t A i j < EMPTY → Selected g A i j (at g.nodes t A i j))
    final_selected A i j hA hi hj l = let r = sound_real f.real l in go r.tree r.is
      where
        v : ℕ
        v = at g.nodes t A i j

        f : FinalCell g A i j v
        f = final.cell A i j hA hi hj

        go : (τ : Tree g A i j) → v ≡ key_of τ → Selected g A i j v
        go (leaf {x} r e c d) is =
            by_edge (record { r = r; x = x; e = e; rule = c; edge = d; is = is }) (λ κ y. rw y.is (f.least (leaf_tree y)).0)
        go (pair {B} {C} r k c s u) is = by_rule none it (λ κ y. rw (← (candidate_key y)) (f.least (candidate_tree y)).0)
          where
            none : (κ : ℕ) → ¬ LeafKey g A i j κ
            none κ y =
                omega (arith, is, (f.least (leaf_tree y)).0, (key_bounds ok (leaf_tree y)).1, (key_bounds ok (pair r k c s u)).0, joined_left (height s) (height u), height_pos s)

            best : Candidate g A i j (key (joined (height_of (at g.nodes t B i k)) (height_of (at g.nodes t C k j))) k r)
            best = record {
              r = r;
              B = B;
              C = C;
              k = k;
              a = height_of (at g.nodes t B i k);
              b = height_of (at g.nodes t C k j);
              rule = c;
              left = side_least s;
              right = side_least u;
              is = refl;
            }

            it : Candidate g A i j v
            it =
                let low = joined_mono _ _ _ _ ((side_least s).least _ _ (tree_reach s)) ((side_least u).least _ _ (tree_reach u)) in
                let e : v ≡ key (joined best.a best.b) k r =
                le_antisymm (rw (← (candidate_key best)) (f.least (candidate_tree best)).0) (omega (arith, is, low)) in
                rw e best

    -- and the key that the rule of selection selects is what the final table holds
    pub selected_final : {A i j κ : ℕ} → Selected g A i j κ → at g.nodes t A i j ≡ κ
    selected_final {A} {i} {j} x =
        let τ = selected_tree x in
        let b = tree_inside ok τ in
        selected_one (final_selected A i j b.head b.from b.to ((held τ).least τ).1) x
