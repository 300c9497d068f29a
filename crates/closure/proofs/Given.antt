-- When each refusal of the run is given: all before it pass, and its own test fails. A step is never too high. Assumes nothing.
use mathlib.Core.Path.{◌≡◌}
use mathlib.Core.List.{List}
use mathlib.Core.Logic.{◌≢◌, ◌↔◌, ◌⊎◌, inl, inr}
use Prim.Native.Nat.{ℕ, ◌≤◌, ◌<◌}
use native.Mathlib.Omega.{arith}
use Rattle.words.specs.Refusals.{refused, ◌and_then◌, Good}
use Rattle.words.proofs.Refusals.{and_bad, only_must, only_and, and_first, and_second}
use Rattle.words.specs.declared.Reason.{Reason}
use Rattle.words.specs.declared.Reason.TheVariants.{TooShort}
use Rattle.numbers.specs.declared.Numbers.{Numbers}
use Rattle.numbers.specs.Numbers.{cells_of, room_check}
use Rattle.lists.specs.Lists.{lists_check}
use Rattle.numbers.proofs.Right.{room_good}
use Rattle.numbers.proofs.Given.{room_given}
use Rattle.lists.proofs.Given.{lists_other}
use Rattle.closure.specs.Runs.{run_check}

module _ (numbers : Numbers) (rules edges : List ℕ) (table lengths p : ℕ) where
  abbrev cells : ℕ
  cells = cells_of numbers

  -- another than of too few words: as the lists' checks give it
  pub run_lists : (k : Reason) → TooShort ≢ k → (run_check numbers rules edges table lengths ≡ refused k p) ↔ (lists_check numbers rules edges ≡ refused k p)
  unfolding run_check room_check
  run_lists k h = and_first (lists_check numbers rules edges) _ k p (only_and _ _ _ (only_must _ _ TooShort 0 h) (λ _. only_must _ _ TooShort 1 h))

  -- of too few words: the table first
  rooms : ((room_check 0 cells table and_then room_check 1 cells lengths) ≡ refused TooShort p)
      ↔ (((table < cells) × (p ≡ 0)) ⊎ ((cells ≤ table) × ((lengths < cells) × (p ≡ 1))))
  rooms = (λ e. there ((and_bad (room_check 0 cells table) (room_check 1 cells lengths) _).0 e), λ h. (and_bad (room_check 0 cells table) (room_check 1 cells lengths) _).1 (back h))
    where
      there : (room_check 0 cells table ≡ refused TooShort p) ⊎ ((room_check 0 cells table ≡ Good) × (room_check 1 cells lengths ≡ refused TooShort p))
          → ((table < cells) × (p ≡ 0)) ⊎ ((cells ≤ table) × ((lengths < cells) × (p ≡ 1)))
      there (inl e) = inl ((room_given 0 cells table p).0 e)
      there (inr h) = inr ((room_good 0 cells table).0 h.0, (room_given 1 cells lengths p).0 h.1)

      back : ((table < cells) × (p ≡ 0)) ⊎ ((cells ≤ table) × ((lengths < cells) × (p ≡ 1)))
          → (room_check 0 cells table ≡ refused TooShort p) ⊎ ((room_check 0 cells table ≡ Good) × (room_check 1 cells lengths ≡ refused TooShort p))
      back (inl h) = inl ((room_given 0 cells table p).1 h)
      back (inr h) = inr ((room_good 0 cells table).1 h.0, (room_given 1 cells lengths p).1 h.1)

  pub run_10 : (run_check numbers rules edges table lengths ≡ refused TooShort p)
      ↔ ((lists_check numbers rules edges ≡ Good) × (((table < cells) × (p ≡ 0)) ⊎ ((cells ≤ table) × ((lengths < cells) × (p ≡ 1)))))
  unfolding run_check
  run_10 =
      let a = and_second (lists_check numbers rules edges) _ TooShort p (lists_other numbers rules edges TooShort (omega arith)) in
      (λ e. let h = a.0 e in (h.0, rooms.0 h.1), λ h. a.1 (h.0, rooms.1 h.1))
