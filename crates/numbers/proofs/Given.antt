-- 10 and 13 'given exactly when'. Assumes nothing.
use mathlib.Core.Path.{◌≡◌}
use mathlib.Core.Logic.Iff
use mathlib.Core.Logic.{◌↔◌, ◌⊎◌}
use mathlib.Core.Bool.{true, false}
use Prim.Native.Nat.{ℕ, ◌≤◌, ◌<◌}
use lib.Dec.{leb}
use borrow.Author.Tests.{leb-true, leb-false, le-leb, lt-leb}
use Rattle.words.specs.Refusals.{refused}
use Rattle.words.proofs.Refusals.{must_given, three_given}
use Rattle.words.specs.declared.Reason.TheVariants.{TooShort, TooLarge}
use Rattle.numbers.specs.declared.Numbers.{Numbers}
use Rattle.numbers.specs.Numbers.{large_check, room_check}

small : (x most : ℕ) → (leb x most ≡ true) ↔ (x ≤ most)
small x most = (λ e. leb-true _ _ e, λ h. le-leb _ _ h)

large : (x most : ℕ) → (leb x most ≡ false) ↔ (most < x)
large x most = (λ e. leb-false _ _ e, λ h. lt-leb _ _ h)

-- refusal 10, TooShort, is given exactly where a lent buffer has less room than is needed
pub room_given : (place want have p : ℕ) → (room_check place want have ≡ refused TooShort p) ↔ ((have < want) × (p ≡ place))
unfolding room_check
room_given place want have p =
    Iff.trans (must_given (leb want have) TooShort place p) (Iff.and (large want have) Iff.rfl)

-- refusal 13, TooLarge, is given exactly for more than 16 nodes, 8 nonterminals or 1,024 edges, the first of these
pub given_13 : (numbers : Numbers) (edges p : ℕ) → (large_check numbers edges ≡ refused TooLarge p)
    ↔ (((16 < numbers.nodes) × (p ≡ 0))
    ⊎ ((numbers.nodes ≤ 16) × (8 < numbers.nonterminals) × (p ≡ 1))
    ⊎ ((numbers.nodes ≤ 16) × (numbers.nonterminals ≤ 8) × (1024 < edges) × (p ≡ 5)))
unfolding large_check
given_13 numbers edges p =
    three_given TooLarge 0 1 5 p
    (small numbers.nodes 16) (large numbers.nodes 16) (small numbers.nonterminals 8) (large numbers.nonterminals 8) (large edges 1024)
