-- The errors that look right are errors: on one small graph each leaves a table, or lengths, that no run leaves. Assumes nothing.
use mathlib.Core.Path.{◌≡◌, refl}
use mathlib.Core.List.{List, [], ◌∷◌}
use mathlib.Core.Bool.{true, false}
use Prim.Native.Nat.{ℕ}
use native.Mathlib.Omega.{arith}
use Rattle.key.specs.Keys.{key}
use Rattle.words.specs.First.{first}
use Rattle.words.specs.Tab.{tab}
use Rattle.meaning.specs.Net.{Sane, word}
use Rattle.meaning.specs.Trees.{joined}
use Rattle.meaning.specs.Table.{cell}
use Rattle.meaning.specs.Steps.{candidate, offer, step, wins, after}
use Rattle.meaning.specs.Passes.{ask_of, steps_of, changes}
use Rattle.meaning.specs.Final.{FinalTable}
use Rattle.meaning.specs.Lengths.{held_sum, depth, Lengths}
use Rattle.meaning.specs.Computed.{is_edge, lowest_edge, is_pair, is_leaf, leaf_word, start_word, start_table, right_sides, right_word, right_cell}
use Rattle.meaning.proofs.FinalTables.{final_tables}
use Rattle.meaning.proofs.Lengths.{lengths_one}
use Rattle.meaning.proofs.Right.{final_falling, right_lengths}
use Rattle.examples.specs.Errors.{first_tree, counted, pass_number, storing, rules, edges, loop, start, pass, final, by_first_tree, by_pass_number, by_storing}
use Rattle.examples.proofs.Certain.{every, each_cell, sane_rule, sane_edge, sane, certain, certain_sane, certain_right, certain_final}

-- its lengths
longs : List ℕ
longs = 8 ∷ 3 ∷ 3 ∷ 8 ∷ 6 ∷ 1 ∷ 1 ∷ 6 ∷ 2 ∷ 7 ∷ 7 ∷ 2 ∷ []

is_certain : certain 2 3 rules edges final longs ≡ true
unfolding final longs rules edges word joined cell candidate offer step wins ask_of steps_of held_sum first every each_cell is_edge lowest_edge is_pair is_leaf leaf_word start_word right_sides right_word right_cell sane_rule sane_edge sane certain
is_certain = refl

-- what the run leaves
pub is_final : FinalTable loop final
is_final = certain_final 2 3 rules edges final longs is_certain

-- the run makes three passes here, the third without a change, and its depth is 5
pub depth_not_passes : (after 2 (after 2 start pass) pass ≡ final) × (changes 2 final pass ≡ false) × (depth final 12 ≡ 5)
unfolding final start pass rules edges word joined cell candidate offer step wins ask_of steps_of tab first is_edge lowest_edge is_leaf leaf_word start_word start_table
depth_not_passes = (refl, refl, refl)

-- steps in the order of the list first fill (0, 1, 1) too high, and there it stays
pub first_tree_wrong : ¬ FinalTable loop by_first_tree
unfolding final by_first_tree first_tree start pass rules edges word joined cell candidate offer step wins ask_of steps_of tab first is_edge lowest_edge is_leaf leaf_word start_word start_table
first_tree_wrong f =
    let e : key 6 0 3 ≡ key 5 1 3 = final_tables by_first_tree final f is_final 0 1 1 (omega arith) (omega arith) (omega arith) in
    absurd (omega (arith, e))

-- cell (0, 0, 1), of height 3, is found in pass 2
pub pass_number_wrong : ¬ FinalTable loop by_pass_number
unfolding final by_pass_number pass_number counted start pass rules edges word joined cell candidate offer step wins ask_of steps_of tab first is_edge lowest_edge is_leaf leaf_word start_word start_table
pass_number_wrong f =
    let e : key 2 1 3 ≡ key 3 1 3 = final_tables by_pass_number final f is_final 0 0 1 (omega arith) (omega arith) (omega arith) in
    absurd (omega (arith, e))

-- the table is right, but the length of (2, 0, 1) is 7, not 5: its left side's key fell to one of the same height and another length
pub storing_wrong : (by_storing.table ≡ final) × ¬ Lengths loop by_storing.table by_storing.lengths
unfolding final longs by_storing storing start pass rules edges word joined cell candidate offer step wins ask_of steps_of held_sum tab first is_edge lowest_edge is_leaf leaf_word start_word start_table
storing_wrong = (refl, go)
  where
    ok : Sane loop
    ok = certain_sane 2 3 rules edges final longs is_certain

    right : Lengths loop final longs
    right = right_lengths (certain_right 2 3 rules edges final longs is_certain)

    go : ¬ Lengths loop by_storing.table by_storing.lengths
    go x =
        let e : ◌≡◌ {A = ℕ} 5 7 = lengths_one ok (final_falling ok is_final) x right 2 0 1 (omega arith) (omega arith) (omega arith) in
        absurd (omega (arith, e))
