-- The engine's own checks of its numbers and lists: whole records, limits, each rule, each edge. Assumes nothing.
use Rattle.std.specs.Prelude.{List, Bool, cond, ◌&&◌, ℕ, ◌/◌, ◌%◌, length, eqb, ltb}
use Rattle.words.specs.Refusals.{must, ◌and_then◌, scan, Check}
use Rattle.words.specs.declared.Reason.TheVariants.{WrongCount, WrongRule, WrongEdge}
use Rattle.meaning.specs.Net.{Net, net_of, word}
use Rattle.numbers.specs.declared.Numbers.{Numbers}
use Rattle.numbers.specs.Numbers.{between, limits_check}

-- the grammar and the graph that the lists hold
abbrev pub net : Numbers → List ℕ → List ℕ → Net
net numbers rules edges = net_of numbers.nodes numbers.nonterminals rules edges

-- a rule in range: its nonterminals are below their number, its label is 1 to labels; the third word 65535 always means a label rule
unfoldable pub right_rule : Numbers → ℕ → ℕ → ℕ → Bool
right_rule numbers a b c =
    ltb a numbers.nonterminals
    && cond (eqb c 65535) (between 1 numbers.labels b) (ltb b numbers.nonterminals && ltb c numbers.nonterminals)

-- an edge in range: both nodes are below their number, its label is 1 to labels
unfoldable pub right_edge : Numbers → ℕ → ℕ → ℕ → Bool
right_edge numbers i x j = ltb i numbers.nodes && between 1 numbers.labels x && ltb j numbers.nodes

-- refusal 5, WrongCount: the length of the rule list (place 0) or of the edge list (place 1) is not a multiple of 3
unfoldable pub whole_check : ℕ → ℕ → Check
whole_check rules edges = must (eqb (rules % 3) 0) WrongCount 0 and_then must (eqb (edges % 3) 0) WrongCount 1

unfoldable pub rule_check : Numbers → List ℕ → ℕ → Check
rule_check numbers rules r = must (right_rule numbers (word rules r 0) (word rules r 1) (word rules r 2)) WrongRule r

unfoldable pub edge_check : Numbers → List ℕ → ℕ → Check
edge_check numbers edges e = must (right_edge numbers (word edges e 0) (word edges e 1) (word edges e 2)) WrongEdge e

-- what every call of the engine checks first, in the order 5, 4, 7, 8
unfoldable pub lists_check : Numbers → List ℕ → List ℕ → Check
lists_check numbers rules edges =
    whole_check (length rules) (length edges)
    and_then limits_check numbers (length rules) (length edges)
    and_then scan (rule_check numbers rules) (length rules / 3)
    and_then scan (edge_check numbers edges) (length edges / 3)
