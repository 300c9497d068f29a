-- What the reader's stages hand on: the header's numbers, where each type's records begin, and the map's kinds. Assumes nothing.
use Rattle.std.specs.Prelude.{List, cond, ◌≡◌, ℕ, ◌*◌, ◌<◌, get_or, ltb, Option, Some, None}
use Rattle.words.specs.Tab.{tab, over}
use Rattle.words.specs.Refusals.{Check, Good, must, ◌and_then◌, scan}
use Rattle.words.specs.declared.Reason.TheVariants.{WrongNumber}
use Rattle.numbers.specs.Numbers.{in_limits, room_check}
use Rattle.deck.specs.Blocks.{word_at, first_of, record_at}
use Rattle.deck.specs.Reads.{entry_check, rule_record_check, entry_of, edge_record_check}
use Rattle.deck.specs.declared.Header.{Header}
use Rattle.deck.specs.declared.Sections.{Sections}

-- the header's numbers are within their limits, asked number by number
unfoldable pub limits_of : Header → Check
limits_of h =
    must (in_limits 0 h.nodes) WrongNumber 0
    and_then must (in_limits 1 h.nonterminals) WrongNumber 1
    and_then must (in_limits 2 h.labels) WrongNumber 2
    and_then must (in_limits 3 h.entries) WrongNumber 3
    and_then must (in_limits 4 h.rules) WrongNumber 4
    and_then must (in_limits 5 h.edges) WrongNumber 5
    and_then must (ltb h.query h.nonterminals) WrongNumber 6

-- the first blocks of each type
abbrev pub sections_of : List ℕ → Sections
sections_of d = record { header = first_of d 1; map = first_of d 2; rules = first_of d 3; edges = first_of d 4 }

-- every map entry is right
abbrev pub RightMap : List ℕ → Type 0
RightMap d = scan (entry_check d) (word_at d 0 3) ≡ Good

-- every edge is right
abbrev pub RightEdges : List ℕ → Type 0
RightEdges d = scan (edge_record_check d) (word_at d 0 5) ≡ Good

-- l begins with the map's kinds, side by side
abbrev pub HoldsKinds : List ℕ → List ℕ → Type 0
HoldsKinds d l = (m : ℕ) → m < word_at d 0 3 → get_or l m 0 ≡ record_at d 2 m 0

-- the label of the map entry that has this kind, if one has it
unfoldable pub label_at : List ℕ → ℕ → Option ℕ
label_at d kind = cond (ltb (entry_of d kind) (word_at d 0 3)) (Some (record_at d 2 (entry_of d kind) 1)) None

-- the first n words of a list are f 0, .., f (n - 1), for each f that the calls of a closure answer as
abbrev pub FrontIs : (ℕ → ℕ → Type 0) → ℕ → List ℕ → List ℕ → Type 0
FrontIs post n old new = (f : ℕ → ℕ) → ((k x : ℕ) → k < n → post k x → x ≡ f k) → new ≡ over (tab f n) old

-- the two lent lists have room, behind the deck's own checks
abbrev pub lists_room : Header → ℕ → ℕ → Check
lists_room h rules edges = room_check 3 (3 * h.rules) rules and_then room_check 4 (3 * h.edges) edges

-- the checks of the records: the map's, the rules', then edge by edge
abbrev pub records_check : List ℕ → Check
records_check d =
    scan (entry_check d) (word_at d 0 3)
    and_then scan (rule_record_check d) (word_at d 0 4)
    and_then scan (edge_record_check d) (word_at d 0 5)
