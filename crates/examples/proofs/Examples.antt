-- The checked examples hold: each of their tables, written out, passes the test of a final table by computation. Assumes nothing.
use mathlib.Core.Path.{◌≡◌, refl}
use mathlib.Core.List.{List, [], ◌∷◌}
use Prim.Native.Nat.{ℕ, ◌*◌}
use native.Mathlib.Omega.{arith}
use lib.ListN.{set, replicate}
use lib.Dec.{eqb}
use borrow.Author.Tests.{eqb-true}
use Rattle.key.specs.Keys.{EMPTY, key}
use Rattle.words.specs.First.{first}
use Rattle.meaning.specs.Net.{net_of, word}
use Rattle.meaning.specs.Trees.{joined}
use Rattle.meaning.specs.Table.{cell, at, Each}
use Rattle.meaning.specs.Steps.{candidate, offer, step, wins}
use Rattle.meaning.specs.Passes.{ask_of, steps_of}
use Rattle.meaning.specs.Lengths.{held_sum, Recorded}
use Rattle.meaning.specs.Computed.{is_edge, lowest_edge, is_pair, is_leaf, leaf_word, start_word, right_sides, right_word, right_cell, path_of}
use Rattle.examples.specs.Examples.{AllHold, S, deck_edges, examples}
use Rattle.examples.proofs.Decks.{report_read, unmapped_refused}
use Rattle.examples.proofs.Certain.{every, each_cell, sane_rule, sane_edge, sane, certain, each_true, certain_final, certain_path}

-- a filled cell: A, i, j, its key, its length
abbrev Filled : Type 0
Filled = ℕ × ℕ × ℕ × ℕ × ℕ

-- the table and the lengths of n nodes and 4 nonterminals with these cells filled
keys : ℕ → List Filled → List ℕ
keys n [] = replicate (4 * n * n) EMPTY
keys n (x ∷ xs) = set (keys n xs) (cell n x.0 x.1 x.2) x.3

longs : ℕ → List Filled → List ℕ
longs n [] = replicate (4 * n * n) 0
longs n (x ∷ xs) = set (longs n xs) (cell n x.0 x.1 x.2) x.4

deck : List Filled
deck =
    (0, 0, 3, key 3 1 4, 3) ∷ (0, 0, 4, key 4 3 6, 4) ∷ (0, 1, 2, key 1 1 0, 1) ∷ (0, 3, 4, key 1 3 0, 1) ∷ (0, 4, 4, key 1 4 0, 1)
    ∷ (1, 0, 1, key 1 0 1, 1) ∷ (2, 2, 3, key 1 2 2, 1) ∷ (3, 1, 3, key 2 2 5, 2) ∷ []

chain3 : List Filled
chain3 =
    (0, 0, 1, key 1 0 0, 1) ∷ (0, 0, 2, key 2 1 6, 2) ∷ (0, 0, 3, key 3 1 6, 3) ∷ (0, 1, 2, key 1 1 0, 1) ∷ (0, 1, 3, key 2 2 6, 2)
    ∷ (0, 2, 3, key 1 2 0, 1) ∷ []

chain4 : List Filled
chain4 =
    (0, 0, 1, key 1 0 0, 1) ∷ (0, 0, 2, key 2 1 6, 2) ∷ (0, 0, 3, key 3 1 6, 3) ∷ (0, 0, 4, key 3 2 6, 4) ∷ (0, 1, 2, key 1 1 0, 1)
    ∷ (0, 1, 3, key 2 2 6, 2) ∷ (0, 1, 4, key 3 2 6, 3) ∷ (0, 2, 3, key 1 2 0, 1) ∷ (0, 2, 4, key 2 3 6, 2) ∷ (0, 3, 4, key 1 3 0, 1) ∷ []

diamond : List Filled
diamond =
    (0, 0, 1, key 1 0 0, 1) ∷ (0, 0, 2, key 1 0 0, 1) ∷ (0, 0, 3, key 2 1 6, 2) ∷ (0, 1, 3, key 1 1 0, 1) ∷ (0, 2, 3, key 1 2 0, 1) ∷ []

infixr 20 ◌also◌
◌also◌ : {P Q : Type 0} → P → Q → P × Q
p also q = (p, q)

all_empty_lem : Each (net_of 5 4 S []) (λ A i j. at 5 (keys 5 []) A i j ≡ EMPTY)
unfolding keys cell every each_cell
all_empty_lem A i j hA hi hj = eqb-true _ _ (each_true 5 4 (λ A i j. eqb (at 5 (keys 5 []) A i j) EMPTY) refl A i j hA hi hj)

-- a to i
pub examples_hold : AllHold examples
unfolding examples S deck_edges keys longs deck chain3 chain4 diamond word joined cell candidate offer step wins ask_of steps_of held_sum first every each_cell is_edge lowest_edge is_pair is_leaf leaf_word start_word right_sides right_word right_cell sane_rule sane_edge sane certain path_of
examples_hold =
    (keys 5 deck, certain_final _ _ _ _ _ (longs 5 deck) refl, refl also refl also refl also refl also refl also tt)
    also (keys 4 chain3, certain_final _ _ _ _ _ (longs 4 chain3) refl, refl also refl also tt)
    also (keys 5 chain4, certain_final _ _ _ _ _ (longs 5 chain4) refl, refl also refl also tt)
    also (keys 4 diamond, certain_final _ _ _ _ _ (longs 4 diamond) refl, refl also path also tt)
    also (keys 5 [], certain_final _ _ _ _ _ (longs 5 []) refl, all_empty_lem also refl also tt)
    also refl
    also refl
    also unmapped_refused
    also report_read
    also tt
  where
    path : Recorded (net_of 4 4 S (0 ∷ 1 ∷ 1 ∷ 0 ∷ 1 ∷ 2 ∷ 1 ∷ 1 ∷ 3 ∷ 2 ∷ 1 ∷ 3 ∷ [])) (keys 4 diamond) 0 0 3 (0 ∷ 2 ∷ [])
    path = certain_path _ _ _ _ _ (longs 4 diamond) refl 0 0 3 (omega arith) (omega arith) (omega arith) (omega arith) (omega arith)
