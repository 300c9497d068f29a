-- The reader: its checks in their order, its answer, and what it leaves in the two lent lists. Assumes nothing.
use Rattle.std.specs.Prelude.{List, Bool, cond, ◌&&◌, ◌||◌, ℕ, ◌*◌, ◌-◌, ◌/◌, ◌%◌, length, eqb, leb, ltb, Result, Ok, Err}
use Rattle.words.specs.Refusals.{Refusal, refused, must, ◌and_then◌, scan, Check}
use Rattle.words.specs.First.{first}
use Rattle.words.specs.Tab.{tab, over}
use Rattle.words.specs.declared.Reason.TheVariants.{WrongSize, WrongSum, WrongOrder, WrongNumber, WrongCount, WrongEntry, WrongRule, WrongEdge, UnknownKind}
use Rattle.numbers.specs.declared.Numbers.{Numbers}
use Rattle.numbers.specs.Numbers.{between, in_limits, room_check}
use Rattle.lists.specs.Lists.{right_rule}
use Rattle.deck.specs.Blocks.{blocks, type_of, right_sum, right_order, word_at, right_header, right_records, total, record_at}
use Rattle.deck.specs.declared.Header.{Header}

-- the seven header numbers: the words of three records, of which the last ends in two zeros
abbrev pub header_of : List ℕ → Header
header_of d = record {
  nodes = word_at d 0 0;
  nonterminals = word_at d 0 1;
  labels = word_at d 0 2;
  entries = word_at d 0 3;
  rules = word_at d 0 4;
  edges = word_at d 0 5;
  query = word_at d 0 6;
}

-- the first three of them
abbrev pub numbers_in : Header → Numbers
numbers_in h = record { nodes = h.nodes; nonterminals = h.nonterminals; labels = h.labels }

abbrev pub deck_numbers : List ℕ → Numbers
deck_numbers d = numbers_in (header_of d)

-- refusal 1, WrongSize: no bytes, no whole blocks, or more than 58 of them
abbrev pub right_size : List ℕ → Bool
right_size d = ltb 0 (length d) && eqb (length d % 512) 0 && leb (length d) 29696

unfoldable pub size_check : List ℕ → Check
size_check d = must (right_size d) WrongSize 0

-- block by block: refusal 2, WrongSum, its sum is not that of its bytes; then 3, WrongOrder, its number is not its position, or its
-- type is out of order
abbrev pub frame_check : List ℕ → ℕ → Check
frame_check d b = must (right_sum d b) WrongSum b and_then must (right_order d b) WrongOrder b

-- refusal 4, WrongNumber: a header number outside its limits, then the query no nonterminal
abbrev pub limit_check : List ℕ → ℕ → Check
limit_check d k = must (in_limits k (word_at d 0 k)) WrongNumber k

unfoldable pub header_check : List ℕ → Check
header_check d = scan (limit_check d) 6 and_then must (ltb (word_at d 0 6) (word_at d 0 1)) WrongNumber 6

-- refusal 5, WrongCount: a block's count, or what is not used of it, is wrong; its type selects the test, and any other number falls
-- to refusal 3
unfoldable pub fill_check : List ℕ → ℕ → Check
fill_check d b =
    cond (eqb (type_of d b) 1) (must (right_header d b) WrongCount b)
    (cond (between 2 4 (type_of d b)) (must (right_records d b) WrongCount b) (refused WrongOrder b))

-- refusal 5, WrongCount, at place 0: the counts do not add up to the header's
abbrev pub right_totals : List ℕ → Bool
right_totals d =
    eqb (total d 2 (blocks d)) (word_at d 0 3)
    && eqb (total d 3 (blocks d)) (word_at d 0 4)
    && eqb (total d 4 (blocks d)) (word_at d 0 5)

unfoldable pub totals_check : List ℕ → Check
totals_check d = must (right_totals d) WrongCount 0

-- refusal 6, WrongEntry: a map entry whose kind is not above that of the entry before, whose label is none, or whose third word is not 0
abbrev pub rising : List ℕ → ℕ → Bool
rising d m = eqb m 0 || ltb (record_at d 2 (m - 1) 0) (record_at d 2 m 0)

abbrev pub right_entry : List ℕ → ℕ → Bool
right_entry d m = rising d m && between 1 (word_at d 0 2) (record_at d 2 m 1) && eqb (record_at d 2 m 2) 0

unfoldable pub entry_check : List ℕ → ℕ → Check
entry_check d m = must (right_entry d m) WrongEntry m

-- refusal 7, WrongRule: a rule with a nonterminal or a label out of range
unfoldable pub rule_record_check : List ℕ → ℕ → Check
rule_record_check d r = must (right_rule (deck_numbers d) (record_at d 3 r 0) (record_at d 3 r 1) (record_at d 3 r 2)) WrongRule r

-- the map entry of a kind, or the number of entries where no entry has it
unfoldable pub entry_of : List ℕ → ℕ → ℕ
entry_of d kind = first (λ m. eqb (record_at d 2 m 0) kind) (word_at d 0 3)

-- edge by edge: refusal 8, WrongEdge, a node out of range; then 9, UnknownKind, a kind that no map entry has
abbrev pub right_nodes : List ℕ → ℕ → Bool
right_nodes d e = ltb (record_at d 4 e 0) (word_at d 0 0) && ltb (record_at d 4 e 2) (word_at d 0 0)

abbrev pub right_kind : List ℕ → ℕ → Bool
right_kind d e = ltb (entry_of d (record_at d 4 e 1)) (word_at d 0 3)

unfoldable pub edge_record_check : List ℕ → ℕ → Check
edge_record_check d e = must (right_nodes d e) WrongEdge e and_then must (right_kind d e) UnknownKind e

-- the order of the deck's checks: size; block by block sum and order; header; block by block counts, then their totals; map; rules;
-- edge by edge nodes and kind
unfoldable pub deck_check : List ℕ → Check
deck_check d =
    size_check d
    and_then scan (frame_check d) (blocks d)
    and_then header_check d
    and_then scan (fill_check d) (blocks d)
    and_then totals_check d
    and_then scan (entry_check d) (word_at d 0 3)
    and_then scan (rule_record_check d) (word_at d 0 4)
    and_then scan (edge_record_check d) (word_at d 0 5)

-- last, refusal 10, TooShort: the rule list (place 3), then the edge list (4)
unfoldable pub read_check : List ℕ → ℕ → ℕ → Check
read_check d rules edges =
    deck_check d and_then room_check 3 (3 * word_at d 0 4) rules and_then room_check 4 (3 * word_at d 0 5) edges

-- what the reader writes: the rules as in the deck, and the edges as (from, label, to)
unfoldable pub rules_of : List ℕ → List ℕ
rules_of d = tab (λ w. record_at d 3 (w / 3) (w % 3)) (3 * word_at d 0 4)

abbrev pub edge_word : List ℕ → ℕ → ℕ → ℕ
edge_word d e k = cond (eqb k 1) (record_at d 2 (entry_of d (record_at d 4 e 1)) 1) (record_at d 4 e k)

unfoldable pub edges_of : List ℕ → List ℕ
edges_of d = tab (λ w. edge_word d (w / 3) (w % 3)) (3 * word_at d 0 5)

-- an accepting answer carries the header's numbers
abbrev pub header_if : Check → List ℕ → Result Header Refusal
header_if (Ok _) d = Ok (header_of d)
header_if (Err r) d = Err r

-- words of a list past those written keep their values; a refusal changes nothing
abbrev pub written : Check → List ℕ → List ℕ → List ℕ
written (Ok _) w l = over w l
written (Err r) w l = l
