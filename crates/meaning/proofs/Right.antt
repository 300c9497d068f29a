-- What the run leaves is what the table check accepts: a final table with its lengths is a right table. Assumes nothing.
use mathlib.Core.Path.{◌≡◌, ap, ◌∙◌}
use mathlib.Core.List.{List}
use Prim.Native.Nat.{ℕ, ◌≤◌, ◌<◌}
use native.Mathlib.Omega.{arith}
use Rattle.key.specs.Keys.{EMPTY, key, height_of, middle_of, rule_of}
use Rattle.key.proofs.Laws.{height_key, middle_key, rule_key}
use Rattle.meaning.specs.Net.{Net, Sane, Edge}
use Rattle.meaning.specs.Trees.{joined, Tree, height, key_of}
use Rattle.meaning.specs.Table.{at, Each}
use Rattle.meaning.specs.Final.{FinalTable}
use Rattle.meaning.specs.Lengths.{LengthCell, none, one, sum, Lengths, RightCell, RightTable}
use Rattle.meaning.proofs.Joined.{joined_left, joined_right, joined_mono}
use Rattle.meaning.proofs.Trees.{tree_inside, height_pos, key_bounds}
use Rattle.meaning.proofs.Steps.{sound_real, real_height}
use Rattle.meaning.proofs.Lengths.{AtPair, Falling}

-- the sides of a pair cell: both are filled, and the cell is one higher than the higher of them
pub record Sides (g : Net) (t : List ℕ) (A B C i j k : ℕ) : Type 0 where
  pub tall : 1 < height_of (at g.nodes t A i j)
  pub middle : k < g.nodes
  pub left : at g.nodes t B i k < EMPTY
  pub right : at g.nodes t C k j < EMPTY
  pub high : height_of (at g.nodes t A i j) ≡ joined (height_of (at g.nodes t B i k)) (height_of (at g.nodes t C k j))

-- what a filled cell is: of height 1 with its edge, or a pair cell with its sides
pub data Kind (g : Net) (t : List ℕ) (A i j : ℕ) : Type 0 where
  leaf : (x e : ℕ) → height_of (at g.nodes t A i j) ≡ 1 → g.Leaf (rule_of (at g.nodes t A i j)) A x
      → middle_of (at g.nodes t A i j) ≡ i → Edge g.edges e i x j → Kind g t A i j
  pair : (B C : ℕ) → g.Pair (rule_of (at g.nodes t A i j)) A B C → Sides g t A B C i j (middle_of (at g.nodes t A i j)) → Kind g t A i j

abbrev pub Kinds : Net → List ℕ → Type 0
Kinds g t = Each g (λ A i j. at g.nodes t A i j < EMPTY → Kind g t A i j)

module _ {g : Net} (ok : Sane g) {t : List ℕ} where
  -- a pair cell's rule says what its sides are
  pub kind_sides : {A i j : ℕ} → Kind g t A i j → AtPair g t (λ B C. Sides g t A B C i j (middle_of (at g.nodes t A i j))) A i j
  kind_sides (leaf x e h l m d) B C f n p = absurd (n h)
  kind_sides {A} (pair B' C' q s) B C f n p = let e = ok.one_pair _ A B C B' C' p q in rw (e.0, e.1) s

  pub kinds_falling : Kinds g t → Falling g t
  kinds_falling kinds = record {
    cell = λ A i j hA hi hj B C f n p.
        let s = kind_sides (kinds A i j hA hi hj f) B C f n p in
        record { middle = s.middle; left = rw s.high (joined_left _ _); right = rw s.high (joined_right _ _) };
  }

  right_cell_lem : {A i j : ℕ} {ls : List ℕ} → (at g.nodes t A i j < EMPTY → Kind g t A i j) → LengthCell g t ls A i j → RightCell g t ls A i j
  right_cell_lem k (none e a) = RightCell.empty e a
  right_cell_lem {A} {i} {j} {ls} k (one h a) = go (k (omega arith))
    where
      go : Kind g t A i j → RightCell g t ls A i j
      go (leaf x e h' l m d) = RightCell.leaf x e h l m d a
      go (pair B C p s) = absurd (omega (arith, s.tall))
  right_cell_lem k (sum B C m f n p e a) =
      let s = rw (← e) at (kind_sides (k f) B C f n p) in
      RightCell.pair B C m f s.tall p e s.middle s.left s.right s.high a

module _ {g : Net} (ok : Sane g) {t : List ℕ} (fin : FinalTable g t) where
  -- where the final key is a pair tree's, (r, k, s, u): the sides' cells have least heights, and these make its own
  final_pair : {A B C i j k r : ℕ} → g.Pair r A B C → (s : Tree g B i k) (u : Tree g C k j)
      → at g.nodes t A i j ≡ key (joined (height s) (height u)) k r → Sides g t A B C i j k
  final_pair {A} {B} {C} {i} {j} {k} {r} l s u is =
      let p = ok.pairs r A B C l in
      let a = tree_inside ok s in
      let b = tree_inside ok u in
      let x = fin.cell B i k p.left a.from a.to in
      let y = fin.cell C k j p.right b.from b.to in
      let s' = sound_real x.real (x.least s).1 in
      let u' = sound_real y.real (y.least u).1 in
      let least = ((fin.cell A i j p.head a.from b.to).least (Tree.pair r k l s'.tree u'.tree)).0 in
      let ls : height s'.tree ≤ height s = omega (arith, real_height ok s', (x.least s).0, key_bounds ok s) in
      let lu : height u'.tree ≤ height u = omega (arith, real_height ok u', (y.least u).0, key_bounds ok u) in
      let low = joined_mono (height s'.tree) (height u'.tree) (height s) (height u) ls lu in
      record {
        tall = omega (arith, is, height_pos s, joined_left (height s) (height u), a.to, p.rule, ok.nodes, ok.rules);
        middle = a.to;
        left = (x.least s).1;
        right = (y.least u).1;
        high = rw (← real_height ok s', ← real_height ok u') (omega (arith, least, is, low, a.to, p.rule, ok.nodes, ok.rules));
      }

  final_tree : {A i j : ℕ} (τ : Tree g A i j) → at g.nodes t A i j ≡ key_of τ → Kind g t A i j
  final_tree {A} {i} {j} (Tree.leaf {x} r e l d) is =
      let hi : i < 65536 = omega (arith, (ok.ends e i x j d).from, ok.nodes) in
      let hr : r < 65536 = omega (arith, (ok.leaves r A x l).rule, ok.rules) in
      leaf x e (ap height_of is ∙ height_key 1 i r hi hr) (rw (ap rule_of is ∙ rule_key 1 i r hi hr) l) (ap middle_of is ∙ middle_key 1 i r hi hr) d
  final_tree {A} {i} {j} (Tree.pair {B} {C} r k l s u) is =
      let h = joined (height s) (height u) in
      let hk : k < 65536 = omega (arith, (tree_inside ok s).to, ok.nodes) in
      let hr : r < 65536 = omega (arith, (ok.pairs r A B C l).rule, ok.rules) in
      pair B C (rw (ap rule_of is ∙ rule_key h k r hk hr) l) (rw (ap middle_of is ∙ middle_key h k r hk hr) (final_pair l s u is))

  pub final_kinds : Kinds g t
  final_kinds A i j hA hi hj f = let r = sound_real (fin.cell A i j hA hi hj).real f in final_tree r.tree r.is

  pub final_falling : Falling g t
  final_falling = kinds_falling ok final_kinds

  -- what the run leaves is accepted
  pub final_right : {ls : List ℕ} → Lengths g t ls → RightTable g t ls
  final_right x = record {
    long = fin.long;
    lengths = x.long;
    cell = λ A i j hA hi hj. right_cell_lem ok (final_kinds A i j hA hi hj) (x.cell A i j hA hi hj);
  }

module _ {g : Net} {t ls : List ℕ} where
  length_cell : {A i j : ℕ} → RightCell g t ls A i j → LengthCell g t ls A i j
  length_cell (RightCell.empty e a) = none e a
  length_cell (RightCell.leaf x e h l m d a) = one h a
  length_cell (RightCell.pair B C k f h p m i b c j a) = sum B C k f (omega arith) p m a

  module _ (right : RightTable g t ls) where
    -- the length words of an accepted table are those that its cells give
    pub right_lengths : Lengths g t ls
    right_lengths = record { long = right.lengths; cell = λ A i j hA hi hj. length_cell (right.cell A i j hA hi hj) }
