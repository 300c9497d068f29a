-- What is computed from the two lists is what the relations say. Assumes nothing.
use mathlib.Core.Path.{◌≡◌, refl, sym, ap, ap₂, ◌∙◌}
use mathlib.Core.List.{List, [], ◌∷◌, ◌++◌}
use mathlib.Core.Bool.{true, false, not, ◌&&◌}
use mathlib.Core.Logic.{◌≢◌, ◌⊎◌, inl, inr}
use Prim.Native.Nat.{ℕ, zero, suc, ◌*◌, ◌/◌, ◌%◌, ◌≤◌, ◌<◌}
use native.Mathlib.Omega.{arith}
use lib.ListN.{length, length-append}
use lib.Dec.{eqb, ltb}
use borrow.Author.Tests.{ltb-true, ltb-false, lt-ltb, eqb-true, eqb-false, eq-eqb, ne_eqb, not-true}
use borrow.Table.Steps.{cases}
use Rattle.key.specs.Keys.{EMPTY, height_of, middle_of, rule_of}
use Rattle.words.specs.First.{first}
use Rattle.words.specs.Tab.{tab}
use Rattle.words.proofs.First.{first_here, first_lowest}
use Rattle.words.proofs.Refusals.{both}
use Rattle.words.proofs.Tab.{length-tab, get_or-tab}
use Rattle.meaning.specs.Net.{Net, Sane, net_of, Edge, PairRule, LabelRule, word}
use Rattle.meaning.specs.Trees.{joined}
use Rattle.meaning.specs.Table.{at, LeafKey, StartCell, StartTable}
use Rattle.meaning.specs.Lengths.{RightCell, Recorded}
use Rattle.meaning.specs.Computed.{lowest_edge, is_pair, is_leaf, leaf_word, start_word, start_table, right_sides, right_word, right_cell, path_of}
use Rattle.meaning.proofs.Cells.{numbers_cells}
use Rattle.meaning.proofs.Start.{leaf_low}
use Rattle.meaning.proofs.Edges.{found_lowest, lowest_found, lowest_one}

module _ {rules : List ℕ} {r A : ℕ} where
  pub pair_true : is_pair rules A r ≡ true → PairRule rules r A (word rules r 1) (word rules r 2)
  unfolding is_pair
  pair_true e =
      let a = (both (ltb r (length rules / 3)) (eqb (word rules r 0) A && not (eqb (word rules r 2) 65535))).0 e in
      let b = (both (eqb (word rules r 0) A) (not (eqb (word rules r 2) 65535))).0 a.1 in
      record {
        inside = ltb-true _ _ a.0;
        head = eqb-true _ _ b.0;
        left = refl;
        right = refl;
        pair = eqb-false _ _ (not-true _ b.1);
      }

  pub true_pair : {B C : ℕ} → PairRule rules r A B C → is_pair rules A r ≡ true
  unfolding is_pair
  true_pair p = rw (lt-ltb _ _ p.inside, eq-eqb _ _ p.head, ne_eqb _ _ p.pair) refl

module _ {rules edges : List ℕ} {A i j r : ℕ} where
  pub leaf_true : is_leaf rules edges A i j r ≡ true
      → LabelRule rules r A (word rules r 1) × Edge edges (lowest_edge edges i (word rules r 1) j) i (word rules r 1) j
  unfolding is_leaf
  leaf_true e =
      let x = word rules r 1 in
      let f = lowest_edge edges i x j in
      let a = (both (ltb r (length rules / 3)) (eqb (word rules r 0) A && (eqb (word rules r 2) 65535 && ltb f (length edges / 3)))).0 e in
      let b = (both (eqb (word rules r 0) A) (eqb (word rules r 2) 65535 && ltb f (length edges / 3))).0 a.1 in
      let c = (both (eqb (word rules r 2) 65535) (ltb f (length edges / 3))).0 b.1 in (
        record { inside = ltb-true _ _ a.0; head = eqb-true _ _ b.0; label = refl; mark = eqb-true _ _ c.0 },
        (found_lowest edges i x j (ltb-true _ _ c.1)).edge,
      )

  pub true_leaf : {x e : ℕ} → LabelRule rules r A x → Edge edges e i x j → is_leaf rules edges A i j r ≡ true
  unfolding is_leaf
  true_leaf {x} {e} l d =
      let w = (lowest_found edges i x j d).edge.inside in
      rw (lt-ltb _ _ l.inside, eq-eqb _ _ l.head, eq-eqb _ _ l.mark, l.label, lt-ltb _ _ w) refl

-- the computed start is the start
module _ (n m : ℕ) (rules edges : List ℕ) where
  pub start_cell : (A i j : ℕ) → StartCell (net_of n m rules edges) A i j (start_word rules edges A i j)
  unfolding start_word leaf_word
  start_cell A i j = cases (ltb r (length rules / 3)) found none
    where
      r : ℕ
      r = first (is_leaf rules edges A i j) (length rules / 3)

      low : (κ : ℕ) (y : LeafKey (net_of n m rules edges) A i j κ) → r ≤ y.r
      low κ y = first_lowest (is_leaf rules edges A i j) (length rules / 3) y.r (true_leaf y.rule y.edge)

      found : ltb r (length rules / 3) ≡ true → StartCell (net_of n m rules edges) A i j (start_word rules edges A i j)
      found e =
          let l = leaf_true (first_here (is_leaf rules edges A i j) (length rules / 3) (ltb-true _ _ e)) in
          rw e (record {
            real = inr (record { r = r; x = word rules r 1; e = lowest_edge edges i (word rules r 1) j; rule = l.0; edge = l.1; is = refl });
            least = λ κ y. omega (arith, low κ y, y.is);
          })

      none : ltb r (length rules / 3) ≡ false → StartCell (net_of n m rules edges) A i j (start_word rules edges A i j)
      none e = rw e (record { real = inl refl; least = λ κ y. absurd (omega (arith, low κ y, y.rule.inside, ltb-false r (length rules / 3) e)) })

  pub start_computed : StartTable (net_of n m rules edges) (start_table n m rules edges)
  unfolding start_table
  start_computed = record {
    long = omega (arith, length-tab word_at (m * n * n));
    cell = numbers_cells (net_of n m rules edges) (tab word_at (m * n * n)) (StartCell (net_of n m rules edges)) (λ c h.
        rw (get_or-tab word_at (m * n * n) c h) (start_cell (c / n / n) (c / n % n) (c % n)));
  }
    where
      word_at : ℕ → ℕ
      word_at c = start_word rules edges (c / n / n) (c / n % n) (c % n)

-- and there is no other
module _ {g : Net} (ok : Sane g) where
  pub start_one : {A i j v w : ℕ} → StartCell g A i j v → StartCell g A i j w → v ≡ w
  start_one {A} {i} {j} {v} {w} x y = go x.real y.real
    where
      go : (v ≡ EMPTY) ⊎ LeafKey g A i j v → (w ≡ EMPTY) ⊎ LeafKey g A i j w → v ≡ w
      go (inl e) (inl d) = e ∙ sym d
      go (inl e) (inr b) = absurd (omega (arith, x.least w b, (leaf_low ok b).0))
      go (inr a) (inl d) = absurd (omega (arith, y.least v a, (leaf_low ok a).0))
      go (inr a) (inr b) = omega (arith, x.least w b, y.least v a)

-- the computed check accepts exactly the right cells
module _ (n m : ℕ) (rules edges t ls : List ℕ) (A i j : ℕ) where
  abbrev g : Net
  g = net_of n m rules edges

  abbrev v : ℕ
  v = at n t A i j

  abbrev l : ℕ
  l = at n ls A i j

  right_leaf : height_of v ≡ 1 → is_leaf rules edges A i j (rule_of v) && (eqb (middle_of v) i && eqb l 1) ≡ true → RightCell g t ls A i j
  right_leaf h e =
      let a = (both (is_leaf rules edges A i j (rule_of v)) (eqb (middle_of v) i && eqb l 1)).0 e in
      let b = (both (eqb (middle_of v) i) (eqb l 1)).0 a.1 in
      let w = leaf_true a.0 in
      RightCell.leaf (word rules (rule_of v) 1) (lowest_edge edges i (word rules (rule_of v) 1) j) h w.0 (eqb-true _ _ b.0) w.1 (eqb-true _ _ b.1)

  right_pair : (k B C : ℕ) → v < EMPTY → 1 < height_of v → PairRule rules (rule_of v) A B C → k ≡ middle_of v
      → right_sides n t ls i j (height_of v) l k B C ≡ true → RightCell g t ls A i j
  unfolding right_sides
  right_pair k B C f h p m e =
      let a = (both (ltb k n) _).0 e in
      let b = (both (ltb (at n t B i k) EMPTY) _).0 a.1 in
      let c = (both (ltb (at n t C k j) EMPTY) _).0 b.1 in
      let d = (both (eqb (height_of v) (joined (height_of (at n t B i k)) (height_of (at n t C k j)))) _).0 c.1 in
      RightCell.pair B C k f h p m (ltb-true _ _ a.0) (ltb-true _ _ b.0) (ltb-true _ _ c.0) (eqb-true _ _ d.0) (eqb-true _ _ d.1)

  pub right_true : right_cell n rules edges t ls A i j ≡ true → RightCell g t ls A i j
  unfolding right_cell right_word
  right_true e =
      cases (eqb v EMPTY) (λ a. RightCell.empty (eqb-true _ _ a) (eqb-true _ _ (rw a at e))) (λ a.
      cases (eqb (height_of v) 1) (λ b. right_leaf (eqb-true _ _ b) (rw (a, b) at e)) (λ b.
      let c = (both (ltb v EMPTY) _).0 (rw (a, b) at e) in
      let d = (both (ltb 1 (height_of v)) _).0 c.1 in
      let f = (both (is_pair rules A (rule_of v)) _).0 d.1 in
      right_pair (middle_of v) _ _ (ltb-true _ _ c.0) (ltb-true _ _ d.0) (pair_true f.0) refl f.1))

  pub true_right : RightCell g t ls A i j → right_cell n rules edges t ls A i j ≡ true
  unfolding right_cell right_word right_sides
  true_right (RightCell.empty e a) = rw (eq-eqb v EMPTY e) (eq-eqb l 0 a)
  true_right (RightCell.leaf x e h r m d a) =
      let f : v ≢ EMPTY = omega arith in
      rw (ne_eqb v EMPTY f, eq-eqb (height_of v) 1 h, true_leaf r d, eq-eqb (middle_of v) i m, eq-eqb l 1 a) refl
  true_right (RightCell.pair B C k f h p m hk b c e a) =
      let x : v ≢ EMPTY = omega arith in
      let y : height_of v ≢ 1 = omega arith in
      rw (
        ne_eqb v EMPTY x,
        ne_eqb (height_of v) 1 y,
        lt-ltb v EMPTY f,
        lt-ltb 1 (height_of v) h,
        true_pair p,
        p.left,
        p.right,
        ← m,
        lt-ltb k n hk,
        lt-ltb (at n t B i k) EMPTY b,
        lt-ltb (at n t C k j) EMPTY c,
        eq-eqb (height_of v) _ e,
        eq-eqb l _ a,
      ) refl

-- a recorded path is the computed one
module _ {n m : ℕ} {rules edges t : List ℕ} where
  recorded_pos : {A i j : ℕ} {p : List ℕ} → Recorded (net_of n m rules edges) t A i j p → 1 ≤ length p
  recorded_pos (Recorded.leaf h r d) = omega arith
  recorded_pos (Recorded.pair {p} {q} h r k a b) = omega (arith, length-append p q, recorded_pos a)

  pub path_computed : {A i j : ℕ} {p : List ℕ} → Recorded (net_of n m rules edges) t A i j p → (f : ℕ) → length p ≤ f
      → path_of n rules edges t f A i j ≡ p
  unfolding path_of
  path_computed (Recorded.leaf h r d) zero few = absurd (omega arith)
  path_computed (Recorded.leaf {A} {i} {j} {x} h r d) (suc f) few =
      rw (eq-eqb (height_of (at n t A i j)) 1 h, path_of, r.label) (ap (λ e. e ∷ []) (lowest_one edges i x j (lowest_found edges i x j d.edge) d))
  path_computed (Recorded.pair {p} {q} h r k a b) zero few = absurd (omega (arith, length-append p q, recorded_pos a))
  path_computed (Recorded.pair {A} {i} {j} {p} {q} h r k a b) (suc f) few =
      rw (ne_eqb (height_of (at n t A i j)) 1 h, path_of, r.left, r.right, ← k)
      (ap₂ ◌++◌ (path_computed a f (omega (arith, length-append p q, recorded_pos b))) (path_computed b f (omega (arith, length-append p q, recorded_pos a))))
