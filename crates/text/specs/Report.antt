-- What the report of a deck is, to the byte. Assumes nothing.
use Rattle.std.specs.Prelude.{◌≡◌, List, ◌++◌, ℕ, ◌*◌, ◌≤◌, ◌<◌, length, Option, Some, None, Ok, Err}
use Rattle.words.specs.Refusals.{◌and_then◌, Check, number_of}
use Rattle.words.specs.Tab.{over}
use Rattle.meaning.specs.Net.{Net}
use Rattle.meaning.specs.Table.{cells}
use Rattle.meaning.specs.Final.{FinalTable}
use Rattle.meaning.specs.Lengths.{Lengths, depth}
use Rattle.numbers.specs.Numbers.{large_check}
use Rattle.lists.specs.Lists.{net}
use Rattle.deck.specs.declared.Header.{Header}
use Rattle.deck.specs.Reads.{header_of, numbers_in, deck_check, rules_of, edges_of}
use Rattle.text.specs.Text.{opening_line, closing_line, refused_line}
use Rattle.text.specs.Pairs.{Lines}

-- whether a deck is too large, by its header
abbrev pub large_deck : Header → Check
large_deck h = large_check (numbers_in h) h.edges

-- what the report shows as refused: first what the reader refuses for any lists, then a deck that is too large
unfoldable pub report_check : List ℕ → Check
report_check d = deck_check d and_then large_deck (header_of d)

-- the grammar and the graph that a header and the reader's two lists give
abbrev pub net_in : Header → List ℕ → List ℕ → Net
net_in h rules edges = net (numbers_in h) rules edges

-- the report of an accepted deck: its final table, of as many words as it has cells, the lengths, and the lines of the queried
-- nonterminal; the depth is that of all nonterminals
pub record Whole (h : Header) (rules edges w : List ℕ) : Type 0 where
  pub table : List ℕ
  pub lengths : List ℕ
  pub lines : List ℕ
  pub pairs : ℕ
  pub final : FinalTable (net_in h rules edges) table
  pub size : length table ≡ cells (net_in h rules edges)
  pub measured : Lengths (net_in h rules edges) table lengths
  pub size_lengths : length lengths ≡ cells (net_in h rules edges)
  pub each : Lines (net_in h rules edges) table lengths h.query (h.nodes * h.nodes) lines pairs
  pub is : w ≡ opening_line h.nodes h.edges h.nonterminals h.rules
      ++ lines ++ closing_line pairs (depth table (cells (net_in h rules edges)))

-- the text of a report, by what the check says
abbrev pub Reported : Check → Header → List ℕ → List ℕ → List ℕ → Type 0
Reported (Ok _) h rules edges w = Whole h rules edges w
Reported (Err r) h rules edges w = w ≡ refused_line (number_of r.reason) r.place

-- the report of a deck
abbrev pub Report : List ℕ → List ℕ → Type 0
Report d = Reported (report_check d) (header_of d) (rules_of d) (edges_of d)

-- room for any report
abbrev pub ROOM : ℕ
ROOM = 1650000

-- the report stands at the front of the text, the rest of which is as it was
pub record Printed (d entry exit : List ℕ) (n : ℕ) : Type 0 where
  pub report : List ℕ
  pub is : Report d report
  pub count : n ≡ length report
  pub text : exit ≡ over report entry

-- what the report promises: None exactly if the text has no room for any report, and then nothing changes
abbrev pub ReportIs : List ℕ → List ℕ → List ℕ → Option ℕ → Type 0
ReportIs d entry exit None = (length entry < ROOM) × (exit ≡ entry)
ReportIs d entry exit (Some n) = (ROOM ≤ length entry) × Printed d entry exit n
