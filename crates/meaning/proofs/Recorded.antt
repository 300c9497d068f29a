-- The path that an accepted table records: there is one and only one, it is a real path of the recorded height and length,
-- and it is at least as long as its height. Assumes nothing.
use mathlib.Core.Path.{◌≡◌, sym, ap, ap₂, ◌∙◌}
use mathlib.Core.List.{List, [], ◌∷◌}
use mathlib.Core.Logic.{◌≢◌, ◌⊎◌, inl, inr, ⊎_elim}
use Prim.Native.Nat.{ℕ, zero, suc, ◌+◌, ◌≤◌, ◌<◌, min}
use native.Mathlib.Omega.{arith}
use lib.ListN.{length, length-append}
use Rattle.key.specs.Keys.{EMPTY, key, height_of, middle_of, rule_of}
use Rattle.key.proofs.Laws.{key_parts}
use Rattle.meaning.specs.Net.{Net, Sane, Edge}
use Rattle.meaning.specs.Trees.{joined, Tree, height, edges_of, key_of, Reach}
use Rattle.meaning.specs.Table.{at, Each, Real, SoundTable}
use Rattle.meaning.specs.Lengths.{HELD, held_sum, RightCell, RightTable, Recorded}
use Rattle.meaning.specs.Computed.{lowest_edge}
use Rattle.meaning.proofs.Edges.{lowest_found, lowest_one}
use Rattle.meaning.proofs.Joined.{joined_left, joined_right}
use Rattle.meaning.proofs.Trees.{Inside, tree_reach, edges_many, key_height}

-- a table records at most one path for a cell
pub recorded_one : {g : Net} → Sane g → {t : List ℕ} {A i j : ℕ} {p q : List ℕ} → Recorded g t A i j p → Recorded g t A i j q → p ≡ q
recorded_one {g} ok (Recorded.leaf {A} {i} {j} {x} {e} h l d) (Recorded.leaf {x = y} {e = f} h' l' d') =
    let s : x ≡ y = ok.one_label _ A x y l l' in
    ap (λ z. z ∷ []) (lowest_one g.edges i x j d (rw s d'))
recorded_one ok (Recorded.leaf h l d) (Recorded.pair n p m u v) = absurd (n h)
recorded_one ok (Recorded.pair n p m u v) (Recorded.leaf h l d) = absurd (n h)
recorded_one {g} ok {t} (Recorded.pair {A} {B} {C} {i} {j} {k} n p m u v) (Recorded.pair {B = B'} {C = C'} {k = k'} n' p' m' u' v') =
    let s = ok.one_pair _ A B C B' C' p p' in
    let e : k ≡ k' = m ∙ sym m' in
    rw (recorded_one ok u (rw (← s.0, ← e) at u'), recorded_one ok v (rw (← s.1, ← e) at v'))

-- it records one only for cells in range
pub recorded_inside : {g : Net} → Sane g → {t : List ℕ} {A i j : ℕ} {p : List ℕ} → Recorded g t A i j p → Inside g A i j
recorded_inside ok (Recorded.leaf {A} {i} {j} {x} {e} h l d) =
    let b = ok.ends e i x j d.edge in
    record { head = (ok.leaves _ A x l).head; from = b.from; to = b.to }
recorded_inside ok (Recorded.pair {A} {B} {C} n p m u v) =
    record { head = (ok.pairs _ A B C p).head; from = (recorded_inside ok u).from; to = (recorded_inside ok v).to }

-- and for none that are empty
recorded_filled : {g : Net} → Sane g → {t : List ℕ} {A i j : ℕ} {p : List ℕ} → Recorded g t A i j p
    → (at g.nodes t A i j ≡ EMPTY) ⊎ (at g.nodes t A i j < EMPTY) → at g.nodes t A i j < EMPTY
recorded_filled ok way (inr l) = l
recorded_filled ok (Recorded.leaf h l d) (inl e) = absurd (omega arith)
recorded_filled ok (Recorded.pair {A} {B} {C} n p m u v) (inl e) = absurd (omega (arith, (ok.pairs _ A B C p).rule, ok.rules))

held_sum_lem : (a b : ℕ) → held_sum (min HELD a) (min HELD b) ≡ min HELD (a + b)
unfolding held_sum
held_sum_lem a b = omega arith

-- a filled cell's tree: the cell holds its key, the table records its path, and the length word is the path's length, held
pub record Walked (g : Net) (t ls : List ℕ) (A i j : ℕ) : Type 0 where
  pub tree : Tree g A i j
  pub is : at g.nodes t A i j ≡ key_of tree
  pub path : Recorded g t A i j (edges_of tree)
  pub long : at g.nodes ls A i j ≡ min HELD (length (edges_of tree))

-- every filled cell of a height below f has one
abbrev Below : Net → List ℕ → List ℕ → ℕ → Type 0
Below g t ls f = Each g (λ A i j. at g.nodes t A i j < EMPTY → height_of (at g.nodes t A i j) < f → Walked g t ls A i j)

module _ {g : Net} (ok : Sane g) {t ls : List ℕ} where
  walk_leaf : {A i j x e : ℕ} → height_of (at g.nodes t A i j) ≡ 1 → g.Leaf (rule_of (at g.nodes t A i j)) A x
      → middle_of (at g.nodes t A i j) ≡ i → Edge g.edges e i x j → at g.nodes ls A i j ≡ 1 → Walked g t ls A i j
  walk_leaf {A} {i} {j} {x} {e} h l m d a =
      let low = lowest_found g.edges i x j d in
      let v = at g.nodes t A i j in
      record {
        tree = Tree.leaf (rule_of v) (lowest_edge g.edges i x j) l low.edge;
        is = sym (key_parts v) ∙ ap₂ (λ a b. key a b (rule_of v)) h m;
        path = Recorded.leaf h l low;
        long = a;
      }

  walk_pair : {A B C i j k : ℕ} → 1 < height_of (at g.nodes t A i j) → g.Pair (rule_of (at g.nodes t A i j)) A B C
      → k ≡ middle_of (at g.nodes t A i j)
      → height_of (at g.nodes t A i j) ≡ joined (height_of (at g.nodes t B i k)) (height_of (at g.nodes t C k j))
      → at g.nodes ls A i j ≡ held_sum (at g.nodes ls B i k) (at g.nodes ls C k j)
      → Walked g t ls B i k → Walked g t ls C k j → Walked g t ls A i j
  walk_pair {A} {B} {C} {i} {j} {k} h p m e a s u =
      let v = at g.nodes t A i j in
      let n : height_of v ≢ 1 = omega arith in
      let hs : height_of (at g.nodes t B i k) ≡ height s.tree = ap height_of s.is ∙ key_height ok s.tree in
      let hu : height_of (at g.nodes t C k j) ≡ height u.tree = ap height_of u.is ∙ key_height ok u.tree in
      record {
        tree = Tree.pair (rule_of v) k p s.tree u.tree;
        is = sym (key_parts v) ∙ ap₂ (λ a b. key a b (rule_of v)) (e ∙ ap₂ joined hs hu) (sym m);
        path = Recorded.pair n p m s.path u.path;
        long = a ∙ ap₂ held_sum s.long u.long ∙ held_sum_lem (length (edges_of s.tree)) (length (edges_of u.tree))
            ∙ ap (min HELD) (sym (length-append (edges_of s.tree) (edges_of u.tree)));
      }

  told : {A i j : ℕ} → RightCell g t ls A i j → (at g.nodes t A i j ≡ EMPTY) ⊎ (at g.nodes t A i j < EMPTY)
  told (RightCell.empty e a) = inl e
  told (RightCell.leaf x e h r m d a) = inr (omega arith)
  told (RightCell.pair B C k l h p m hk b c e a) = inr l

  walk_cell : {A i j : ℕ} (f : ℕ) → Below g t ls f → i < g.nodes → j < g.nodes → RightCell g t ls A i j → at g.nodes t A i j < EMPTY
      → height_of (at g.nodes t A i j) < suc f → Walked g t ls A i j
  walk_cell f ih hi hj (RightCell.empty e a) l u = absurd (omega arith)
  walk_cell f ih hi hj (RightCell.leaf x e h r m d a) l u = walk_leaf h r m d a
  walk_cell {A} {i} {j} f ih hi hj (RightCell.pair B C k _ h p m hk b c e a) l u =
      let q = ok.pairs _ A B C p in
      walk_pair h p m e a (ih B i k q.left hi hk b (omega (arith, joined_left (height_of (at g.nodes t B i k)) (height_of (at g.nodes t C k j)))))
      (ih C k j q.right hk hj c (omega (arith, joined_right (height_of (at g.nodes t B i k)) (height_of (at g.nodes t C k j)))))

  module _ (right : RightTable g t ls) where
    by_height : (f : ℕ) → Below g t ls f
    by_height zero A i j hA hi hj l h = absurd (omega arith)
    by_height (suc f) A i j hA hi hj l h = walk_cell f (by_height f) hi hj (right.cell A i j hA hi hj) l h

    pub walked : Each g (λ A i j. at g.nodes t A i j < EMPTY → Walked g t ls A i j)
    walked A i j hA hi hj l = by_height (suc (height_of (at g.nodes t A i j))) A i j hA hi hj l (omega arith)

    -- every filled cell of an accepted table is real: it is the key of a tree
    pub right_real : Each g (λ A i j. at g.nodes t A i j < EMPTY → Real g A i j (at g.nodes t A i j))
    right_real A i j hA hi hj l = let w = walked A i j hA hi hj l in record { tree = w.tree; is = w.is; low = l }

    pub right_sound : SoundTable g t
    right_sound = record { long = right.long; cell = λ A i j hA hi hj. ⊎_elim inl (λ l. inr (right_real A i j hA hi hj l)) (told (right.cell A i j hA hi hj)) }

    -- every filled cell has a recorded path
    pub recorded_some : Each g (λ A i j. at g.nodes t A i j < EMPTY → (p : List ℕ) × Recorded g t A i j p)
    recorded_some A i j hA hi hj l = let w = walked A i j hA hi hj l in (edges_of w.tree, w.path)

    module _ {A i j : ℕ} {p : List ℕ} (way : Recorded g t A i j p) where
      -- the tree of a recorded path
      over : (w : Walked g t ls A i j) × (edges_of w.tree ≡ p)
      over =
          let b = recorded_inside ok way in
          let w = walked A i j b.head b.from b.to (recorded_filled ok way (told (right.cell A i j b.head b.from b.to))) in
          (w, recorded_one ok w.path way)

      -- it is a real path, with a tree of the recorded height
      pub recorded_reach : Reach g A i j (height_of (at g.nodes t A i j)) p
      recorded_reach =
          let w = over.0 in
          rw (← over.1, w.is, key_height ok w.tree) (tree_reach w.tree)

      -- its length is the recorded one
      pub recorded_held : at g.nodes ls A i j ≡ min HELD (length p)
      recorded_held = rw (← over.1) over.0.long

      pub recorded_length : at g.nodes ls A i j < HELD → length p ≡ at g.nodes ls A i j
      recorded_length h = omega (arith, recorded_held)

      -- the path that an accepted table records for a cell has at least as many edges as the cell's height
      pub recorded_tall : height_of (at g.nodes t A i j) ≤ length p
      recorded_tall =
          let w = over.0 in
          omega (arith, edges_many w.tree, ap length over.1, ap height_of w.is, key_height ok w.tree)
