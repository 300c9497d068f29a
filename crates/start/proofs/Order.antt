-- What the checks of a start tell, in their order. Assumes nothing.
use mathlib.Core.Path.{◌≡◌}
use mathlib.Core.List.{List}
use mathlib.Core.Logic.{◌↔◌}
use Prim.Native.Nat.{ℕ, ◌≤◌}
use Rattle.words.proofs.Refusals.{and_good}
use Rattle.words.specs.Refusals.{Good}
use Rattle.numbers.specs.declared.Numbers.{Numbers}
use Rattle.numbers.specs.Numbers.{cells_of}
use Rattle.numbers.proofs.Right.{room_good}
use Rattle.lists.proofs.Right.{RightLists, accepted, accepting}
use Rattle.start.specs.Calls.{start_check}

module _ (numbers : Numbers) (rules edges : List ℕ) where
  -- a start, or a step, on accepted lists and a table that is long enough
  pub record StartReady (have : ℕ) : Type 0 where
    pub lists : RightLists numbers rules edges
    pub room : cells_of numbers ≤ have

  pub start_good : (have : ℕ) → (start_check numbers rules edges have ≡ Good) ↔ StartReady have
  unfolding start_check
  start_good have = (
    λ e.
        let a = (and_good _ _).0 e in
        record { lists = accepted numbers rules edges a.0; room = (room_good _ _ _).0 a.1 },
    λ h. (and_good _ _).1 (accepting numbers rules edges h.lists, (room_good _ _ _).1 h.room),
  )
