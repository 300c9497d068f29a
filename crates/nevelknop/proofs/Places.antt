-- Every place that a call gives is below 2^32, so that its answer says number and place. Assumes nothing.
use mathlib.Core.Path.{◌≡◌, sym}
use mathlib.Core.List.{List}
use Prim.Native.Nat.{ℕ, ◌/◌, ◌^◌, ◌<◌}
use native.Mathlib.Omega.{arith}
use mathlib.Core.Bool.{Bool}
use lib.Dec.{leb}
use lib.ListN.{length}
use Rattle.words.specs.Refusals.{Refusal, must, Check, Good}
use Rattle.words.proofs.Refusals.{Only, only_must, only_and, only_scan, and_good, good_bad}
use Rattle.std.specs.Prelude.{Result, Ok, Err}
use Rattle.words.specs.declared.Reason.TheVariants.{WrongCount, TooShort, WrongCell, TooLarge, NoPath, WrongArgument}
use Rattle.words.specs.declared.Reason.{Reason}
use Rattle.meaning.specs.Table.{cell}
use Rattle.meaning.proofs.Cells.{cell_in}
use Rattle.numbers.specs.declared.Numbers.{Numbers}
use Rattle.numbers.specs.Numbers.{large_check, room_check}
use Rattle.lists.specs.Lists.{net, lists_check}
use Rattle.lists.proofs.Right.{accepted, few_cells, sane}
use Rattle.lists.proofs.Given.{given_only}
use Rattle.closure.specs.Runs.{run_check, RunIs}
use Rattle.closure.proofs.Settled.{never_12}
use Rattle.witness.specs.Answers.{cell_check, table_check, arguments_check, path_check, window_check, witness_check}
use Rattle.witness.proofs.Accepts.{asked}
use Rattle.nevelknop.specs.Calls.{bytes_check, call_check}
use Rattle.nevelknop.specs.Inner.{PlaceFits, given_check}

abbrev pub Low : Refusal → Type 0
Low r = r.place < 2 ^ 32

-- a check at a small place
low_must : (b : Bool) (k : Reason) (p : ℕ) → p < 4096 → Only Low (must b k p)
low_must b k p h = only_must Low b k p (omega arith)

low_room : (p want have : ℕ) → p < 4096 → Only Low (room_check p want have)
unfolding room_check
low_room p want have h = low_must (leb want have) TooShort p h

pub low_records : (rules edges : ℕ) → Only Low (bytes_check rules edges)
unfolding bytes_check
low_records rules edges = only_and Low _ _ (low_must _ WrongCount 0 (omega arith)) (λ _. low_must _ WrongCount 1 (omega arith))

module _ (numbers : Numbers) where
  module _ (rules edges : List ℕ) where
    low_lists : Only Low (lists_check numbers rules edges)
    low_lists r e = let h = given_only numbers rules edges r e in omega arith

    low_large : Only Low (large_check numbers (length edges / 3))
    unfolding large_check
    low_large =
        only_and Low _ _ (low_must _ TooLarge 0 (omega arith))
        (λ _. only_and Low _ _ (low_must _ TooLarge 1 (omega arith)) (λ _. low_must _ TooLarge 5 (omega arith)))

    -- every refusal of a call
    pub low_call : {records own : Check} → Only Low records → Only Low own → Only Low (call_check records numbers rules edges own)
    unfolding call_check
    low_call f g = only_and Low _ _ f (λ _. only_and Low _ _ low_lists (λ _. only_and Low _ _ low_large (λ _. g)))

    pub low_run : (t ls : ℕ) → Only Low (run_check numbers rules edges t ls)
    unfolding run_check
    low_run t ls =
        only_and Low _ _ low_lists
        (λ _. only_and Low _ _ (low_room 0 _ _ (omega arith)) (λ _. low_room 1 _ _ (omega arith)))

    -- 12 is never given
    pub run_placed : (own : Check) (t ls t' ls' : List ℕ) (a : Result ℕ Refusal) → own ≡ run_check numbers rules edges (length t) (length ls)
        → RunIs own (net numbers rules edges) t ls t' ls' a → PlaceFits a
    unfolding run_check
    run_placed (Ok _) t ls t' ls' (Ok d) e i = tt
    run_placed (Ok _) t ls t' ls' (Err r) e i = absurd (never_12 (sane numbers rules edges (accepted numbers rules edges ((and_good _ _).0 (sym e)).0)) i.high)
    run_placed (Err r) t ls t' ls' a e i = rw i.0 (low_run (length t) (length ls) r (sym e))

    -- 11 and 14 name a cell
    low_window : (t ls : List ℕ) (a i j : ℕ) → Only Low (window_check numbers rules edges a i j t ls)
    unfolding window_check arguments_check table_check cell_check path_check
    low_window t ls a i j =
        only_and Low (lists_check numbers rules edges) _ low_lists
        (λ g. only_and Low (arguments_check numbers a i j) _ low_arguments
        (λ h. only_and Low (table_check numbers rules edges t ls) _ (low_table g) (λ _. low_path g h)))
      where
        low_arguments : Only Low (arguments_check numbers a i j)
        low_arguments =
            only_and Low _ _ (low_must _ WrongArgument 0 (omega arith))
            (λ _. only_and Low _ _ (low_must _ WrongArgument 1 (omega arith)) (λ _. low_must _ WrongArgument 2 (omega arith)))

        low_table : lists_check numbers rules edges ≡ Good → Only Low (table_check numbers rules edges t ls)
        low_table g =
            only_and Low _ _ (low_room 0 _ _ (omega arith))
            (λ _. only_and Low _ _ (low_room 1 _ _ (omega arith))
            (λ _. only_scan Low _ _ (λ c h. only_must Low _ WrongCell c (omega (arith, h, few_cells numbers rules edges (accepted numbers rules edges g))))))

        low_path : lists_check numbers rules edges ≡ Good → arguments_check numbers a i j ≡ Good → Only Low (path_check numbers.nodes a i j t ls)
        low_path g h =
            let k = asked numbers rules edges a i j ((and_good _ _).1 (g, h)) in
            let c = cell_in numbers.nodes numbers.nonterminals a i j k.head k.from k.to in
            only_and Low _ _ (only_must Low _ NoPath (cell numbers.nodes a i j) (omega (arith, c, few_cells numbers rules edges (accepted numbers rules edges g))))
            (λ _. low_must _ TooShort 2 (omega arith))

    pub low_witness : (t ls : List ℕ) (a i j words : ℕ) → Only Low (witness_check numbers rules edges a i j t ls words)
    unfolding witness_check
    low_witness t ls a i j words = only_and Low _ _ (low_window t ls a i j) (λ _. low_room 2 _ _ (omega arith))

  -- those that do not depend on the call
  pub low_given : (rules edges : List ℕ) → Only Low (given_check numbers rules edges)
  low_given rules edges = low_call _ _ (low_records _ _) (λ r e. absurd (good_bad e))
