-- Rows that the rounds leave: every bit has a tree, and every tree has its bit. Assumes nothing.
use mathlib.Core.Path.{◌≡◌, ◌∙◌}
use mathlib.Core.List.{List}
use Prim.Native.Nat.{ℕ, ◌+◌, ◌*◌, ◌≤◌, ◌<◌}
use native.Mathlib.Omega.{arith}
use native.Mathlib.Decide.{ℕ_discrete}
use lib.ListN.{length}
use lib.Arith.{digits_lt}
use Rattle.words.proofs.Tab.{length-fill, get_or-fill, drop-fill}
use Rattle.meaning.specs.Net.{Net, Sane}
use Rattle.meaning.specs.Trees.{Tree, leaf, pair, height, edges_of}
use Rattle.meaning.specs.Rows.{bit, row_at, Row}
use Rattle.meaning.proofs.Trees.{reach_tree, tree_reach, tree_inside}
use Rattle.meaning.proofs.Bits.{bit_zero, bit_power_other}
use Rattle.numbers.specs.declared.Numbers.{Numbers}
use Rattle.lists.specs.Lists.{net}
use Rattle.rows.specs.Rounds.{RowsGrown, LabelStep, zeroed, AllLeafBits, EachBit, InRange, RowsReady, Entered, RowsClosed}
use Rattle.rows.specs.Calls.{RowsMade}
use Rattle.rows.proofs.Lowest.{bits_below}
use Rattle.rows.proofs.Grows.{grown_length, grown_keeps, grown_rest, row_same, grown_each, pairs_each}

-- rs: the rows that were lent
module _ (numbers : Numbers) {rules edges : List ℕ} (ok : Sane (net numbers rules edges)) (rs : List ℕ) where
  abbrev g : Net
  g = net numbers rules edges

  abbrev n : ℕ
  n = numbers.nodes

  abbrev count : ℕ
  count = numbers.nonterminals * numbers.nodes

  range : InRange numbers rules
  range r A B C p = let q = ok.pairs r A B C p in (q.head, q.left, q.right)

  -- a leaf's tree for each bit that the label rules bring
  entered_trees : {rs' : List ℕ} → RowsGrown (LabelStep n rules edges) (zeroed count rs) rs' → EachBit numbers (Tree g) rs'
  entered_trees x = grown_each numbers (Tree g) brings x (λ A i j hA hi b. absurd (omega (arith, bit_zero j, rw (get_or-fill count 0 rs (A * n + i) (digits_lt hA hi)) at b)))
    where
      brings : (rs : List ℕ) (a w : ℕ) → EachBit numbers (Tree g) rs → LabelStep n rules edges rs a w
          → (A i j : ℕ) → A < numbers.nonterminals → i < n → A * n + i ≡ a → bit w j ≡ 1 → Tree g A i j
      brings rs a w h s A i j hA hi e b = go (ℕ_discrete j s.j)
        where
          q : (A ≡ s.A) × (i ≡ s.i)
          q = row_same n A s.A i s.i hi (ok.ends s.e s.i s.x s.j s.edge).from (e ∙ s.row)

          go : Dec (j ≡ s.j) → Tree g A i j
          go (yes z) = rw (q.0, q.1, z) (leaf s.r s.e s.rule s.edge)
          go (no z) = absurd (omega (arith, rw s.is at b, bit_power_other s.j j z))

  pub entered_ready : {rs' : List ℕ} → count ≤ length rs → RowsGrown (LabelStep n rules edges) (zeroed count rs) rs' → RowsReady numbers rules rs'
  entered_ready long x = record {
    long = omega (arith, long, grown_length x, length-fill count 0 rs long);
    range = range;
    clear = λ A i j hA hi b. (tree_inside ok (entered_trees x A i j hA hi b)).to;
  }

  module _ {rs' rs'' : List ℕ} (x : Entered n rules edges (AllLeafBits n rules edges) (zeroed count rs) rs') (y : RowsClosed n rules rs' rs'') where
    -- every bit has a tree
    trees : EachBit numbers (Tree g) rs''
    trees = pairs_each numbers range (Tree g) (record { inside = λ A i j τ. (tree_inside ok τ).to; joins = λ r A B C i k j p σ τ. pair r k p σ τ }) y.grown (entered_trees x.grown)

    -- every tree has its bit
    bits : {A i j : ℕ} → Tree g A i j → bit (row_at n rs'' A i) j ≡ 1
    bits {A} {i} {j} (leaf {x = l} r e p d) = grown_keeps y.grown (A * n + i) j (x.leaves r e A l i j p d)
    bits {A} {i} {j} (pair {B} {C} r k p σ τ) = y.still r A B C i p (tree_inside ok σ).from j (record { k = k; choice = bits σ; row = bits τ })

    row : (A i : ℕ) → A < numbers.nonterminals → i < n → Row g A i (row_at n rs'' A i)
    row A i hA hi = record {
      bits = λ j hj. (λ b. let τ = trees A i j hA hi b in record { height = height τ; edges = edges_of τ; reach = tree_reach τ }, λ h. bits (reach_tree h.reach).tree);
      clear = bits_below (row_at n rs'' A i) n (λ j b. (tree_inside ok (trees A i j hA hi b)).to);
    }

    pub rows_made : count ≤ length rs → RowsMade g rs rs''
    rows_made long = record {
      rows = record { long = omega (arith, long, length-fill count 0 rs long, grown_length x.grown, grown_length y.grown); row = row };
      kept =
          grown_rest count (λ rs a w s. rw s.row (digits_lt (range s.r s.A s.B s.C s.rule).0 s.from)) y.grown
          ∙ grown_rest count (λ rs a w s. rw s.row (digits_lt (ok.leaves s.r s.A s.x s.rule).head (ok.ends s.e s.i s.x s.j s.edge).from)) x.grown
          ∙ drop-fill count 0 rs;
    }
