-- What the functions between the pen and the report promise. Assumes nothing.
use Rattle.std.specs.Prelude.{◌≡◌, List, ℕ, ◌≤◌, ◌<◌, length, Ok, Err}
use Rattle.words.specs.Refusals.{Check, Good}
use Rattle.key.specs.Keys.{EMPTY}
use Rattle.meaning.specs.Final.{FinalTable}
use Rattle.meaning.specs.Lengths.{Lengths}
use Rattle.numbers.specs.Numbers.{cells_of}
use Rattle.lists.specs.Lists.{lists_check}
use Rattle.deck.specs.declared.Header.{Header}
use Rattle.deck.specs.Reads.{numbers_in, header_of, rules_of, edges_of}
use Rattle.text.specs.declared.pen.Pen.{Pen}
use Rattle.text.specs.declared.query.Query.{Query}
use Rattle.text.specs.Pairs.{Tail, pair_line, Lines}
use Rattle.text.specs.Report.{report_check, Whole}
use Rattle.text.specs.Pen.{Penned}
use Rattle.text.specs.Queried.{checked_numbers, checked_net, key_at}

-- a query's table is final, with its lengths
pub record FinalQuery (q : Query) : Type 0 where
  pub final : FinalTable (checked_net q.checked) q.checked.held.table.now
  pub lengths : Lengths (checked_net q.checked) q.checked.held.table.now q.checked.held.lengths.now

-- a pair: a filled cell of the queried nonterminal
pub record PairAt (q : Query) (i j : ℕ) : Type 0 where
  pub from : i < (checked_numbers q.checked).nodes
  pub to : j < (checked_numbers q.checked).nodes
  pub filled : key_at q.checked q.head i j < EMPTY

-- what may follow its colon
abbrev pub TailOf : Query → ℕ → ℕ → List ℕ → Type 0
TailOf q i j = Tail (checked_net q.checked) q.checked.held.table.now q.checked.held.lengths.now q.head i j

-- its line
abbrev pub line_of : Query → ℕ → ℕ → List ℕ → List ℕ
line_of q i j tail = pair_line (checked_net q.checked) q.checked.held.table.now q.checked.held.lengths.now q.head i j tail

-- the lines of the first c cells, k of them
abbrev pub LinesOf : Query → ℕ → List ℕ → ℕ → Type 0
LinesOf q = Lines (checked_net q.checked) q.checked.held.table.now q.checked.held.lengths.now q.head

-- what follows a pair's colon is written
pub record TailPenned (q : Query) (i j : ℕ) (p r : Pen) : Type 0 where
  pub tail : List ℕ
  pub of : TailOf q i j tail
  pub penned : Penned p r tail

-- its line is written
pub record LinePenned (q : Query) (i j : ℕ) (p r : Pen) : Type 0 where
  pub tail : List ℕ
  pub of : TailOf q i j tail
  pub penned : Penned p r (line_of q i j tail)

-- the lines of the first c cells are written, k of them
pub record LinesPenned (q : Query) (c : ℕ) (p r : Pen) (k : ℕ) : Type 0 where
  pub lines : List ℕ
  pub each : LinesOf q c lines k
  pub penned : Penned p r lines

-- a deck that the report shows: its lists pass the engine's checks, and it is small
pub record Small (h : Header) (rules edges : List ℕ) : Type 0 where
  pub lists : lists_check (numbers_in h) rules edges ≡ Good
  pub query : h.query < h.nonterminals
  pub nodes : h.nodes ≤ 16
  pub nonterminals : h.nonterminals ≤ 8

-- as many words as there are cells
pub record Exact (h : Header) (t ls : List ℕ) : Type 0 where
  pub table : length t ≡ cells_of (numbers_in h)
  pub lengths : length ls ≡ cells_of (numbers_in h)

-- a query of a deck, over its final table
pub record QueryOf (h : Header) (q : Query) : Type 0 where
  pub numbers : checked_numbers q.checked ≡ numbers_in h
  pub head : q.head ≡ h.query
  pub final_query : FinalQuery q
  pub exact : Exact h q.checked.held.table.now q.checked.held.lengths.now

-- a text that has P is written
pub record ReportPenned (P : List ℕ → Type 0) (p q : Pen) : Type 0 where
  pub text : List ℕ
  pub is : P text
  pub penned : Penned p q text

-- the report of a deck is written where nothing refuses it, and else nothing
abbrev pub ShownIs : List ℕ → Pen → Pen → Check → Type 0
ShownIs d p q (Ok _) = (report_check d ≡ Good) × ReportPenned (Whole (header_of d) (rules_of d) (edges_of d)) p q
ShownIs d p q (Err r) = (report_check d ≡ Err r) × (q ≡ p)
