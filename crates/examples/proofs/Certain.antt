-- A test that a table written out passes only if it is the final table. Assumes nothing.
use mathlib.Core.Path.{◌≡◌}
use mathlib.Core.List.{List}
use mathlib.Core.Bool.{Bool, true, false, not, ◌&&◌, ◌||◌, true≢false}
use Prim.Native.Nat.{ℕ, zero, suc, ◌*◌, ◌/◌, ◌≤◌, ◌<◌}
use native.Mathlib.Omega.{arith}
use native.Mathlib.Decide.{ℕ_discrete}
use lib.ListN.{length}
use lib.Dec.{eqb, leb, ltb}
use borrow.Author.Tests.{leb-true, ltb-true, ne_eqb, not-true}
use Rattle.key.specs.Keys.{EMPTY}
use Rattle.words.proofs.Refusals.{both}
use Rattle.meaning.specs.Net.{Sane, net_of, word}
use Rattle.meaning.specs.Table.{at, Each, HoldsLeaves}
use Rattle.meaning.specs.Passes.{steps_of, changes}
use Rattle.meaning.specs.Final.{FinalTable}
use Rattle.meaning.specs.Lengths.{HELD, RightTable, Recorded}
use Rattle.meaning.specs.Computed.{start_word, right_cell, path_of}
use Rattle.meaning.proofs.Trees.{tree_inside}
use Rattle.meaning.proofs.Start.{leaf_tree, leaf_low}
use Rattle.meaning.proofs.AnyOrder.{still_final}
use Rattle.meaning.proofs.PassOf.{pass_of, quiet_still}
use Rattle.meaning.proofs.Recorded.{right_sound, recorded_some, recorded_length}
use Rattle.meaning.proofs.Nets.{sane_lists}
use Rattle.meaning.proofs.Computed.{start_cell, right_true, path_computed}

-- p holds of 0, .., n - 1
unfoldable pub every : (ℕ → Bool) → ℕ → Bool
every p zero = true
every p (suc n) = every p n && p n

-- p holds of every cell
unfoldable pub each_cell : ℕ → ℕ → (ℕ → ℕ → ℕ → Bool) → Bool
each_cell n m p = every (λ A. every (λ i. every (p A i) n) n) m

-- every nonterminal of rule r is one, and every end of edge e a node
unfoldable pub sane_rule : ℕ → List ℕ → ℕ → Bool
sane_rule m rules r = ltb (word rules r 0) m && (eqb (word rules r 2) 65535 || (ltb (word rules r 1) m && ltb (word rules r 2) m))

unfoldable pub sane_edge : ℕ → List ℕ → ℕ → Bool
sane_edge n edges e = ltb (word edges e 0) n && ltb (word edges e 2) n

unfoldable pub sane : ℕ → ℕ → List ℕ → List ℕ → Bool
sane n m rules edges =
    leb n 64
    && (leb m 32
    && (leb (length rules / 3) 256 && (every (sane_rule m rules) (length rules / 3) && every (sane_edge n edges) (length edges / 3))))

-- the table check accepts t with the lengths ls, no cell is above the start's, and a pass changes nothing
unfoldable pub certain : ℕ → ℕ → List ℕ → List ℕ → List ℕ → List ℕ → Bool
certain n m rules edges t ls =
    sane n m rules edges
    && (leb (m * n * n) (length t)
    && (leb (m * n * n) (length ls)
    && (each_cell n m (right_cell n rules edges t ls)
    && (each_cell n m (λ A i j. leb (at n t A i j) (start_word rules edges A i j)) && not (changes n t (steps_of rules n))))))

every_true : (p : ℕ → Bool) (n : ℕ) → every p n ≡ true → (k : ℕ) → k < n → p k ≡ true
unfolding every
every_true p zero e k l = absurd (omega arith)
every_true p (suc n) e k l = go ((both (every p n) (p n)).0 e) (every_true p n) (ℕ_discrete k n)
  where
    go : (every p n ≡ true) × (p n ≡ true) → (every p n ≡ true → (k : ℕ) → k < n → p k ≡ true) → Dec (k ≡ n) → p k ≡ true
    go b ih (yes q) = rw q b.1
    go b ih (no q) = ih b.0 k (omega arith)

pub each_true : (n m : ℕ) (p : ℕ → ℕ → ℕ → Bool) → each_cell n m p ≡ true → (A i j : ℕ) → A < m → i < n → j < n → p A i j ≡ true
unfolding each_cell
each_true n m p e A i j hA hi hj =
    every_true (p A i) n (every_true (λ i. every (p A i) n) n (every_true (λ A. every (λ i. every (p A i) n) n) m e A hA) i hi) j hj

or_right : (a b : Bool) → a || b ≡ true → a ≡ false → b ≡ true
or_right true b e f = absurd (true≢false f)
or_right false b e f = e

module _ (n m : ℕ) (rules edges : List ℕ) where
  sane_true : sane n m rules edges ≡ true → Sane (net_of n m rules edges)
  unfolding sane sane_rule sane_edge
  sane_true e =
      let a = (both (leb n 64) _).0 e in
      let b = (both (leb m 32) _).0 a.1 in
      let c = (both (leb (length rules / 3) 256) _).0 b.1 in
      let d = (both (every (sane_rule m rules) (length rules / 3)) (every (sane_edge n edges) (length edges / 3))).0 c.1 in
      sane_lists n m rules edges (leb-true _ _ a.0) (leb-true _ _ b.0) (leb-true _ _ c.0)
      (λ r l. ltb-true _ _ ((both (ltb (word rules r 0) m) _).0 (every_true (sane_rule m rules) _ d.0 r l)).0)
      (λ r l p.
      let f = ((both (ltb (word rules r 0) m) _).0 (every_true (sane_rule m rules) _ d.0 r l)).1 in
      let h = (both (ltb (word rules r 1) m) (ltb (word rules r 2) m)).0 (or_right (eqb (word rules r 2) 65535) _ f (ne_eqb _ _ p)) in
      (ltb-true _ _ h.0, ltb-true _ _ h.1))
      (λ x l.
      let h = (both (ltb (word edges x 0) n) (ltb (word edges x 2) n)).0 (every_true (sane_edge n edges) _ d.1 x l) in
      (ltb-true _ _ h.0, ltb-true _ _ h.1))

  -- what `certain` asks, test by test
  record Tested (t ls : List ℕ) : Type 0 where
    within : Sane (net_of n m rules edges)
    right : RightTable (net_of n m rules edges) t ls
    start : (A i j : ℕ) → A < m → i < n → j < n → at n t A i j ≤ start_word rules edges A i j
    quiet : changes n t (steps_of rules n) ≡ false

  module _ (t ls : List ℕ) (test : certain n m rules edges t ls ≡ true) where
    tested : Tested t ls
    unfolding certain
    tested =
        let a = (both (sane n m rules edges) _).0 test in
        let b = (both (leb (m * n * n) (length t)) _).0 a.1 in
        let c = (both (leb (m * n * n) (length ls)) _).0 b.1 in
        let d = (both (each_cell n m (right_cell n rules edges t ls)) _).0 c.1 in
        let e = (both (each_cell n m (λ A i j. leb (at n t A i j) (start_word rules edges A i j))) (not (changes n t (steps_of rules n)))).0 d.1 in
        record {
          within = sane_true a.0;
          right = record {
            long = leb-true _ _ b.0;
            lengths = leb-true _ _ c.0;
            cell = λ A i j hA hi hj. right_true n m rules edges t ls A i j (each_true n m (right_cell n rules edges t ls) d.0 A i j hA hi hj);
          };
          start = λ A i j hA hi hj. leb-true _ _ (each_true n m (λ A i j. leb (at n t A i j) (start_word rules edges A i j)) e.0 A i j hA hi hj);
          quiet = not-true _ e.1;
        }

    pub certain_sane : Sane (net_of n m rules edges)
    certain_sane = tested.within

    pub certain_right : RightTable (net_of n m rules edges) t ls
    certain_right = tested.right

    certain_leaves : HoldsLeaves (net_of n m rules edges) t
    certain_leaves = record {
      cell = λ A i j κ y.
          let b = tree_inside certain_sane (leaf_tree y) in
          let l : at n t A i j ≤ κ = omega (arith, tested.start A i j b.head b.from b.to, (start_cell n m rules edges A i j).least κ y) in
          (l, omega (arith, (leaf_low certain_sane y).0));
    }

    -- a certain table is the final table
    pub certain_final : FinalTable (net_of n m rules edges) t
    certain_final =
        still_final certain_sane t (right_sound certain_sane certain_right) certain_leaves (quiet_still t (steps_of rules n) (pass_of n m rules edges) tested.quiet)

    -- and the computed path is the recorded one
    pub certain_path : Each (net_of n m rules edges) (λ A i j. at n t A i j < EMPTY → at n ls A i j < HELD
        → Recorded (net_of n m rules edges) t A i j (path_of n rules edges t (at n ls A i j) A i j))
    certain_path A i j hA hi hj full short =
        let way = recorded_some certain_sane certain_right A i j hA hi hj full in
        let long = recorded_length certain_sane certain_right way.1 short in
        rw (path_computed way.1 (at n ls A i j) (omega arith)) way.1
