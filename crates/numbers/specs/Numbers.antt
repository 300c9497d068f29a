-- The header numbers: their limits, the room that a lent buffer needs, and the number of cells. Assumes nothing.
use Rattle.std.specs.Prelude.{[], ◌∷◌, Bool, ◌&&◌, ℕ, ◌/◌, get_or, leb}
use Rattle.words.specs.Refusals.{must, ◌and_then◌, Check}
use Rattle.words.specs.declared.Reason.TheVariants.{WrongNumber, TooShort, TooLarge}
use Rattle.meaning.specs.Table.{cell_count}
use Rattle.numbers.specs.declared.Numbers.{Numbers}

-- the number of cells
abbrev pub cells_of : Numbers → ℕ
cells_of numbers = cell_count numbers.nodes numbers.nonterminals

abbrev pub between : ℕ → ℕ → ℕ → Bool
between low high x = leb low x && leb x high

-- the limits of header words 0 to 5: of nodes, nonterminals and labels, which are at least 1, and of map entries, rules and edges,
-- which may be 0
unfoldable pub in_limits : ℕ → ℕ → Bool
in_limits k x = between (get_or (1 ∷ 1 ∷ 1 ∷ 0 ∷ 0 ∷ 0 ∷ []) k 0) (get_or (64 ∷ 32 ∷ 255 ∷ 256 ∷ 256 ∷ 4096 ∷ []) k 0) x

-- refusal 4, WrongNumber: nodes, nonterminals, labels, rules or edges outside its limits; the last two are a third of the length of
-- their list
unfoldable pub limits_check : Numbers → ℕ → ℕ → Check
limits_check numbers rules edges =
    must (in_limits 0 numbers.nodes) WrongNumber 0
    and_then must (in_limits 1 numbers.nonterminals) WrongNumber 1
    and_then must (in_limits 2 numbers.labels) WrongNumber 2
    and_then must (in_limits 4 (rules / 3)) WrongNumber 4
    and_then must (in_limits 5 (edges / 3)) WrongNumber 5

-- refusal 13, TooLarge, of the report and the C calls: more than 16 nodes at place 0, 8 nonterminals at 1, 1,024 edges at 5
unfoldable pub large_check : Numbers → ℕ → Check
large_check numbers edges =
    must (leb numbers.nodes 16) TooLarge 0
    and_then must (leb numbers.nonterminals 8) TooLarge 1
    and_then must (leb edges 1024) TooLarge 5

-- refusal 10, TooShort: a lent buffer has less room than is needed
unfoldable pub room_check : ℕ → ℕ → ℕ → Check
room_check place want have = must (leb want have) TooShort place
