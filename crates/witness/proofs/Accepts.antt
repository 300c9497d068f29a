-- What the checks of lists, arguments and table are good for. Assumes nothing.
use mathlib.Core.Path.{◌≡◌}
use mathlib.Core.List.{List}
use Prim.Native.Nat.{ℕ, ◌<◌}
use borrow.Author.Tests.{ltb-true}
use Rattle.words.specs.Refusals.{◌and_then◌, Good}
use Rattle.words.proofs.Refusals.{must_good, and_good, scan_good}
use Rattle.meaning.specs.Lengths.{RightCell, RightTable}
use Rattle.meaning.proofs.Cells.{numbers_cells, cells_numbers}
use Rattle.meaning.proofs.Computed.{right_true, true_right}
use Rattle.lists.specs.Lists.{net, lists_check}
use Rattle.numbers.specs.declared.Numbers.{Numbers}
use Rattle.numbers.proofs.Right.{room_good}
use Rattle.lists.proofs.Right.{accepted}
use Rattle.witness.specs.Answers.{cell_check, table_check, arguments_check}
use Rattle.witness.specs.Walks.{Sizes, Asked}

module _ (numbers : Numbers) (rules edges : List ℕ) where
  pub sizes : lists_check numbers rules edges ≡ Good → Sizes numbers
  sizes e =
      let ok = accepted numbers rules edges e in
      record { some = ok.nodes.low; nodes = ok.nodes.high; nonterminals = ok.nonterminals.high }

  -- arguments in range
  pub in_range : {a i j : ℕ} → arguments_check numbers a i j ≡ Good → (a < numbers.nonterminals) × (i < numbers.nodes) × (j < numbers.nodes)
  unfolding arguments_check
  in_range e =
      let c = (and_good _ _).0 e in
      let d = (and_good _ _).0 c.1 in
      (ltb-true _ _ ((must_good _ _ _).0 c.0), ltb-true _ _ ((must_good _ _ _).0 d.0), ltb-true _ _ ((must_good _ _ _).0 d.1))

  pub asked : (a i j : ℕ) → lists_check numbers rules edges and_then arguments_check numbers a i j ≡ Good → Asked numbers a i j
  asked a i j e =
      let b = (and_good _ _).0 e in
      let c = in_range b.1 in
      record { sizes = sizes b.0; head = c.0; from = c.1; to = c.2 }

  module _ (t ls : List ℕ) where
    abbrev n : ℕ
    n = numbers.nodes

    -- the check of the cells, with room for them, accepts exactly the right tables
    pub table_right : table_check numbers rules edges t ls ≡ Good → RightTable (net numbers rules edges) t ls
    unfolding table_check cell_check
    table_right e =
        let b = (and_good _ _).0 e in
        let c = (and_good _ _).0 b.1 in
        record {
          long = (room_good _ _ _).0 b.0;
          lengths = (room_good _ _ _).0 c.0;
          cell = numbers_cells (net numbers rules edges) t (λ A i j _. RightCell (net numbers rules edges) t ls A i j)
              (λ k h. right_true n numbers.nonterminals rules edges t ls _ _ _ ((must_good _ _ _).0 ((scan_good _ _).0 c.1 k h)));
        }

    pub right_table : RightTable (net numbers rules edges) t ls → table_check numbers rules edges t ls ≡ Good
    unfolding table_check cell_check
    right_table r =
        let at_number = cells_numbers (net numbers rules edges) t (λ A i j _. RightCell (net numbers rules edges) t ls A i j) r.cell in
        (and_good _ _).1 (
          (room_good _ _ _).1 r.long,
          (and_good _ _).1 (
            (room_good _ _ _).1 r.lengths,
            (scan_good _ _).1 (λ k h. (must_good _ _ _).1 (true_right n numbers.nonterminals rules edges t ls _ _ _ (at_number k h))),
          ),
        )
