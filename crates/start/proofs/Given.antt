-- A start's own refusal is given exactly when all before it pass, and its own test fails. Assumes nothing.
use mathlib.Core.Path.{◌≡◌}
use mathlib.Core.List.{List}
use mathlib.Core.Logic.Iff
use mathlib.Core.Logic.{◌↔◌}
use Prim.Native.Nat.{ℕ, ◌<◌}
use native.Mathlib.Omega.{arith}
use Rattle.words.specs.Refusals.{refused, Good}
use Rattle.words.proofs.Refusals.{and_second}
use Rattle.words.specs.declared.Reason.TheVariants.{TooShort}
use Rattle.numbers.specs.declared.Numbers.{Numbers}
use Rattle.numbers.specs.Numbers.{cells_of}
use Rattle.lists.specs.Lists.{lists_check}
use Rattle.numbers.proofs.Given.{room_given}
use Rattle.lists.proofs.Given.{lists_other}
use Rattle.start.specs.Calls.{start_check}

-- the only one that is a start's own: the table is too short
pub start_10 : (numbers : Numbers) (rules edges : List ℕ) (have p : ℕ) → (start_check numbers rules edges have ≡ refused TooShort p)
    ↔ ((lists_check numbers rules edges ≡ Good) × ((have < cells_of numbers) × (p ≡ 0)))
unfolding start_check
start_10 numbers rules edges have p =
    Iff.trans
    (and_second (lists_check numbers rules edges) _ TooShort p (lists_other numbers rules edges TooShort (omega arith)))
    (Iff.and Iff.rfl (room_given 0 (cells_of numbers) have p))
