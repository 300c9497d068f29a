-- The public call: what it answers and leaves, for every input. Assumes nothing.
use Rattle.std.specs.Prelude.{◌≡◌, List, ℕ, ◌*◌, length, drop, Ok, Err}
use Rattle.words.specs.Refusals.{◌and_then◌, Check}
use Rattle.meaning.specs.Net.{Net}
use Rattle.meaning.specs.Rows.{RowTable}
use Rattle.numbers.specs.declared.Numbers.{Numbers}
use Rattle.numbers.specs.Numbers.{room_check}
use Rattle.lists.specs.Lists.{net, lists_check}

-- the lists are refused first, then, at place 5, a buffer of fewer words than there are rows
unfoldable pub rows_check : Numbers → List ℕ → List ℕ → ℕ → Check
rows_check numbers rules edges have = lists_check numbers rules edges and_then room_check 5 (numbers.nonterminals * numbers.nodes) have

-- each row has the bits of its filled cells, and no bit from the node count up; the words past the rows keep their values
pub record RowsMade (g : Net) (rs rs' : List ℕ) : Type 0 where
  pub rows : RowTable g rs'
  pub kept : drop (g.nonterminals * g.nodes) rs' ≡ drop (g.nonterminals * g.nodes) rs

-- what an answer leaves: a refused call changes nothing
abbrev pub RowsLeave : Check → Net → List ℕ → List ℕ → Type 0
RowsLeave (Ok _) g rs rs' = RowsMade g rs rs'
RowsLeave (Err r) g rs rs' = rs' ≡ rs

-- the whole promise of a call on the rows rs: it answers c and leaves rs'
pub record RowsCall (numbers : Numbers) (rules edges rs : List ℕ) (c : Check) (rs' : List ℕ) : Type 0 where
  pub answer : c ≡ rows_check numbers rules edges (length rs)
  pub leaves : RowsLeave c (net numbers rules edges) rs rs'
