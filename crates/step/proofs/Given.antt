-- Each refusal of a step is given exactly when all before it pass, and its own test fails. Assumes nothing.
use mathlib.Core.Path.{◌≡◌, sym}
use mathlib.Core.List.{List, [], ◌∷◌}
use mathlib.Core.Logic.Iff
use mathlib.Core.Logic.{◌≢◌, ◌↔◌, ◌⊎◌}
use mathlib.Core.Bool.{Bool, true, false}
use Prim.Native.Nat.{ℕ, ◌/◌, ◌<◌}
use native.Mathlib.Omega.{arith}
use lib.ListN.{length, get_or}
use lib.Dec.{ltb}
use borrow.Author.Tests.{not-false}
use Rattle.words.specs.Refusals.{refused, must, ◌and_then◌, scan, Check, Good}
use Rattle.words.proofs.Refusals.{must_given, three_given, and_assoc, Only, only_must, only_and, and_first, and_second, LowestWrong, scan_must, differs}
use Rattle.words.specs.declared.Reason.{Reason}
use Rattle.words.specs.declared.Reason.TheVariants.{TooShort, WrongCell, TooHigh, WrongArgument}
use Rattle.meaning.specs.Steps.{Step, target_of, left_of, right_of, usable, too_high}
use Rattle.meaning.specs.Passes.{ask_of}
use Rattle.numbers.specs.declared.Numbers.{Numbers}
use Rattle.numbers.specs.Numbers.{cells_of, room_check}
use Rattle.lists.specs.Lists.{lists_check}
use Rattle.numbers.proofs.Given.{room_given}
use Rattle.lists.proofs.Given.{lists_other}
use Rattle.step.specs.Calls.{is_pair_rule, argument_check, usable_check, height_check, ask_check, step_cells_check, step_check}

module _ (numbers : Numbers) (rules edges t : List ℕ) (r i k j : ℕ) where
  abbrev n : ℕ
  n = numbers.nodes

  abbrev s : Step
  s = ask_of rules r i k j

  abbrev L : Check
  L = lists_check numbers rules edges

  abbrev A : Check
  A = argument_check n rules r i k j

  abbrev R : Check
  R = room_check 0 (cells_of numbers) (length t)

  abbrev U : Check
  U = usable_check n (length rules / 3) t (target_of n s) (left_of n s) (right_of n s)

  abbrev H : Check
  H = height_check n t s

  -- the word of cell c is usable
  abbrev pub fits : ℕ → Bool
  fits c = usable n (length rules / 3) (get_or t c 0)

  -- the tests of the arguments
  abbrev pub in_range : ℕ → Bool
  in_range a = get_or (is_pair_rule rules r ∷ ltb i n ∷ ltb k n ∷ ltb j n ∷ []) a true

  arguments_each : A ≡ scan (λ a. must (in_range a) WrongArgument a) 4
  unfolding argument_check scan ◌and_then◌
  arguments_each = sym (simp and_assoc)

  order : step_check numbers rules edges t r i k j ≡ L and_then A and_then R and_then U and_then H
  unfolding step_check ask_check step_cells_check
  order = simp and_assoc

  -- each check has its own number
  module _ (l : Reason) where
    arguments_other : WrongArgument ≢ l → Only (λ x. x.reason ≢ l) A
    unfolding argument_check
    arguments_other h =
        only_and _ _ _ (only_must _ _ WrongArgument 0 h)
        (λ _. only_and _ _ _ (only_must _ _ WrongArgument 1 h) (λ _. only_and _ _ _ (only_must _ _ WrongArgument 2 h) (λ _. only_must _ _ WrongArgument 3 h)))

    room_other : TooShort ≢ l → Only (λ x. x.reason ≢ l) R
    unfolding room_check
    room_other h = only_must _ _ TooShort 0 h

    usable_other : WrongCell ≢ l → Only (λ x. x.reason ≢ l) U
    unfolding usable_check
    usable_other h = only_and _ _ _ (only_must _ _ WrongCell _ h) (λ _. only_and _ _ _ (only_must _ _ WrongCell _ h) (λ _. only_must _ _ WrongCell _ h))

    height_other : TooHigh ≢ l → Only (λ x. x.reason ≢ l) H
    unfolding height_check
    height_other h = only_must _ _ TooHigh _ h

  module _ (p : ℕ) where
    -- the first argument that is not right
    pub given_15 : (step_check numbers rules edges t r i k j ≡ refused WrongArgument p) ↔ ((L ≡ Good) × LowestWrong in_range 4 p)
    given_15 =
        rw order
        (Iff.trans
        (and_second L _ WrongArgument p (lists_other numbers rules edges WrongArgument (omega arith)))
        (Iff.and Iff.rfl
        (Iff.trans
        (and_first A _ WrongArgument p
        (only_and _ R _ (room_other WrongArgument (differs (omega arith))) (λ _. only_and _ U H (usable_other WrongArgument (differs (omega arith))) (λ _. height_other WrongArgument (differs (omega arith))))))
        (rw arguments_each (scan_must in_range WrongArgument 4 p)))))

    -- the table is too short
    pub given_10 : (step_check numbers rules edges t r i k j ≡ refused TooShort p)
        ↔ ((L and_then A ≡ Good) × ((length t < cells_of numbers) × (p ≡ 0)))
    given_10 =
        rw (order, ← and_assoc L A (R and_then U and_then H))
        (Iff.trans
        (and_second (L and_then A) _ TooShort p (only_and _ L A (lists_other numbers rules edges TooShort (omega arith)) (λ _. arguments_other TooShort (differs (omega arith)))))
        (Iff.and Iff.rfl
        (Iff.trans
        (and_first R _ TooShort p (only_and _ U H (usable_other TooShort (differs (omega arith))) (λ _. height_other TooShort (differs (omega arith)))))
        (room_given 0 (cells_of numbers) (length t) p))))

    -- the first cell, in the order target, left, right, whose key is none that a cell may hold
    pub given_11 : (step_check numbers rules edges t r i k j ≡ refused WrongCell p)
        ↔ ((ask_check numbers rules edges (length t) r i k j ≡ Good)
        × (((fits (target_of n s) ≡ false) × (p ≡ target_of n s))
        ⊎ ((fits (target_of n s) ≡ true) × (fits (left_of n s) ≡ false) × (p ≡ left_of n s))
        ⊎ ((fits (target_of n s) ≡ true) × (fits (left_of n s) ≡ true) × (fits (right_of n s) ≡ false) × (p ≡ right_of n s))))
    unfolding step_check ask_check step_cells_check usable_check
    given_11 =
        Iff.trans
        (and_second (L and_then A and_then R) _ WrongCell p
        (only_and _ L _ (lists_other numbers rules edges WrongCell (omega arith)) (λ _. only_and _ A R (arguments_other WrongCell (differs (omega arith))) (λ _. room_other WrongCell (differs (omega arith))))))
        (Iff.and Iff.rfl
        (Iff.trans
        (and_first U H WrongCell p (height_other WrongCell (differs (omega arith))))
        (three_given WrongCell (target_of n s) (left_of n s) (right_of n s) p Iff.rfl Iff.rfl Iff.rfl Iff.rfl Iff.rfl)))

    -- the key would win and is too high
    pub given_12 : (step_check numbers rules edges t r i k j ≡ refused TooHigh p)
        ↔ ((ask_check numbers rules edges (length t) r i k j and_then U ≡ Good) × ((too_high n t s ≡ true) × (p ≡ target_of n s)))
    unfolding step_check ask_check step_cells_check height_check
    given_12 =
        rw (← and_assoc (L and_then A and_then R) U H)
        (Iff.trans
        (and_second ((L and_then A and_then R) and_then U) H TooHigh p
        (only_and _ _ U
        (only_and _ L _ (lists_other numbers rules edges TooHigh (omega arith)) (λ _. only_and _ A R (arguments_other TooHigh (differs (omega arith))) (λ _. room_other TooHigh (differs (omega arith)))))
        (λ _. usable_other TooHigh (differs (omega arith)))))
        (Iff.and Iff.rfl
        (Iff.trans (must_given _ TooHigh (target_of n s) p) (Iff.and (λ e. not-false _ e, λ e. rw e) Iff.rfl))))
