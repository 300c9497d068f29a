-- What the table check and the witness answer; the order of the refusals is the text of a definition. Assumes nothing.
use Rattle.std.specs.Prelude.{◌≡◌, List, ℕ, ◌/◌, ◌%◌, length, take, drop, ltb, Result, Ok, Err}
use Rattle.key.specs.Keys.{EMPTY}
use Rattle.words.specs.Refusals.{Refusal, must, ◌and_then◌, scan, Check, Good}
use Rattle.words.specs.Tab.{over}
use Rattle.words.specs.declared.Reason.TheVariants.{TooShort, WrongCell, NoPath, WrongArgument}
use Rattle.meaning.specs.Net.{Net}
use Rattle.meaning.specs.Table.{at, cell}
use Rattle.meaning.specs.Lengths.{HELD, Recorded}
use Rattle.meaning.specs.Computed.{right_cell}
use Rattle.numbers.specs.declared.Numbers.{Numbers}
use Rattle.numbers.specs.Numbers.{cells_of, room_check}
use Rattle.lists.specs.Lists.{net, lists_check}

-- cell number c of a table over n nodes is right
unfoldable pub cell_check : ℕ → List ℕ → List ℕ → List ℕ → List ℕ → ℕ → Check
cell_check n rules edges t ls c = must (right_cell n rules edges t ls (c / n / n) (c / n % n) (c % n)) WrongCell c

-- the table check: table and lengths are long enough, and each cell is right, the lowest first
unfoldable pub table_check : Numbers → List ℕ → List ℕ → List ℕ → List ℕ → Check
table_check numbers rules edges t ls =
    room_check 0 (cells_of numbers) (length t)
    and_then room_check 1 (cells_of numbers) (length ls)
    and_then scan (cell_check numbers.nodes rules edges t ls) (cells_of numbers)

-- the table check's answer: the checks of the lists come first
unfoldable pub check_answer : Numbers → List ℕ → List ℕ → List ℕ → List ℕ → Check
check_answer numbers rules edges t ls = lists_check numbers rules edges and_then table_check numbers rules edges t ls

-- the arguments are in range: a nonterminal, at place 0, and two nodes, at 1 and 2
unfoldable pub arguments_check : Numbers → ℕ → ℕ → ℕ → Check
arguments_check numbers a i j =
    must (ltb a numbers.nonterminals) WrongArgument 0
    and_then must (ltb i numbers.nodes) WrongArgument 1
    and_then must (ltb j numbers.nodes) WrongArgument 2

-- the cell is filled; and its length is below 4,294,967,295, which no path's length is held as
unfoldable pub path_check : ℕ → ℕ → ℕ → ℕ → List ℕ → List ℕ → Check
path_check n a i j t ls = must (ltb (at n t a i j) EMPTY) NoPath (cell n a i j) and_then must (ltb (at n ls a i j) HELD) TooShort 2

-- what a window of a witness is refused for: lists, arguments, table, cell
unfoldable pub window_check : Numbers → List ℕ → List ℕ → ℕ → ℕ → ℕ → List ℕ → List ℕ → Check
window_check numbers rules edges a i j t ls =
    lists_check numbers rules edges
    and_then arguments_check numbers a i j
    and_then table_check numbers rules edges t ls and_then path_check numbers.nodes a i j t ls

-- what a whole witness is refused for: a window's refusals, and a path with less room than the recorded length
unfoldable pub witness_check : Numbers → List ℕ → List ℕ → ℕ → ℕ → ℕ → List ℕ → List ℕ → ℕ → Check
witness_check numbers rules edges a i j t ls words =
    window_check numbers rules edges a i j t ls and_then room_check 2 (at numbers.nodes ls a i j) words

-- what a call answers that writes words `of` the recorded path into a lent path, and the lent words at its exit:
-- a refusal changes no lent word; an accepted call answers how many edges it wrote, and the words past those are kept
pub data Answered (g : Net) (t : List ℕ) (A i j : ℕ) (check : Check) (of : List ℕ → List ℕ) (entry exit : List ℕ) : Result ℕ Refusal → Type 0 where
  refused : {r : Refusal} → check ≡ Err r → exit ≡ entry → Answered g t A i j check of entry exit (Err r)
  wrote : {n : ℕ} (p : List ℕ) → check ≡ Good → Recorded g t A i j p → n ≡ length (of p) → exit ≡ over (of p) entry
      → Answered g t A i j check of entry exit (Ok n)

-- the part of a path from position `from` on that fits into n words
abbrev pub part : ℕ → ℕ → List ℕ → List ℕ
part from n p = take n (drop from p)

-- what a window promises: that part of the recorded path
abbrev pub Windowed : Numbers → List ℕ → List ℕ → ℕ → ℕ → ℕ → List ℕ → List ℕ → ℕ → List ℕ → List ℕ → Result ℕ Refusal → Type 0
Windowed numbers rules edges a i j t ls from entry =
    Answered (net numbers rules edges) t a i j (window_check numbers rules edges a i j t ls) (part from (length entry)) entry

-- what a witness promises: the whole recorded path
abbrev pub Witnessed : Numbers → List ℕ → List ℕ → ℕ → ℕ → ℕ → List ℕ → List ℕ → List ℕ → List ℕ → Result ℕ Refusal → Type 0
Witnessed numbers rules edges a i j t ls entry =
    Answered (net numbers rules edges) t a i j (witness_check numbers rules edges a i j t ls (length entry)) (λ p. p) entry
