-- The public start: what it answers and leaves, for every input. Assumes nothing.
use Rattle.std.specs.Prelude.{◌≡◌, List, ℕ, length, drop, Ok, Err}
use Rattle.words.specs.Refusals.{◌and_then◌, Check}
use Rattle.meaning.specs.Net.{Net}
use Rattle.meaning.specs.Table.{cells, StartTable}
use Rattle.numbers.specs.declared.Numbers.{Numbers}
use Rattle.numbers.specs.Numbers.{cells_of, room_check}
use Rattle.lists.specs.Lists.{net, lists_check}

-- the lists are refused first, then a table of fewer words than there are cells
unfoldable pub start_check : Numbers → List ℕ → List ℕ → ℕ → Check
start_check numbers rules edges have = lists_check numbers rules edges and_then room_check 0 (cells_of numbers) have

-- the cells of height 1 are filled and the others empty; the words past the cells keep their values
pub record Started (g : Net) (t t' : List ℕ) : Type 0 where
  pub start : StartTable g t'
  pub kept : drop (cells g) t' ≡ drop (cells g) t

-- what an answer leaves: a refused call changes nothing
abbrev pub StartLeaves : Check → Net → List ℕ → List ℕ → Type 0
StartLeaves (Ok _) g t t' = Started g t t'
StartLeaves (Err r) g t t' = t' ≡ t

-- the whole promise of a start on the table t: it answers c and leaves t'
pub record StartCall (numbers : Numbers) (rules edges t : List ℕ) (c : Check) (t' : List ℕ) : Type 0 where
  pub answer : c ≡ start_check numbers rules edges (length t)
  pub leaves : StartLeaves c (net numbers rules edges) t t'
