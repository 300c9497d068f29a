-- The checked examples a to i as one table. Assumes nothing.
use Rattle.std.specs.Prelude.{◌≡◌, List, [], ◌∷◌, ◌++◌, ℕ, ◌-◌, length, replicate}
use Rattle.key.specs.Keys.{EMPTY, height_of, middle_of, rule_of}
use Rattle.words.specs.Refusals.{refused, Check, Good}
use Rattle.words.specs.declared.Reason.TheVariants.{UnknownKind}
use Rattle.meaning.specs.Net.{Net, net_of}
use Rattle.meaning.specs.Table.{at, cells, Each}
use Rattle.meaning.specs.Final.{FinalTable}
use Rattle.meaning.specs.Lengths.{held_sum, depth, Recorded}
use Rattle.deck.specs.declared.Header.{Header}
use Rattle.deck.specs.Reads.{header_of, read_check, rules_of, edges_of}

-- what is said of a cell (A, i, j), or of a whole table
pub data Claim : Type 0 where
  cell_is height_is middle_is rule_is : (A i j x : ℕ) → Claim
  path_is : (A i j : ℕ) → List ℕ → Claim
  all_empty : Claim
  depth_is : ℕ → Claim

abbrev pub Claimed : Net → List ℕ → Claim → Type 0
Claimed g t (cell_is A i j x) = at g.nodes t A i j ≡ x
Claimed g t (height_is A i j x) = height_of (at g.nodes t A i j) ≡ x
Claimed g t (middle_is A i j x) = middle_of (at g.nodes t A i j) ≡ x
Claimed g t (rule_is A i j x) = rule_of (at g.nodes t A i j) ≡ x
Claimed g t (path_is A i j p) = Recorded g t A i j p
Claimed g t all_empty = Each g (λ A i j. at g.nodes t A i j ≡ EMPTY)
Claimed g t (depth_is d) = depth t (cells g) ≡ d

abbrev pub AllClaimed : Net → List ℕ → List Claim → Type 0
AllClaimed g t [] = Unit {0}
AllClaimed g t (c ∷ cs) = Claimed g t c × AllClaimed g t cs

-- claims on the final table of a graph with n nodes and m nonterminals; what two lengths give; how a deck is refused, whatever the
-- room, or what it is read as by lists that just hold it
pub data Example : Type 0 where
  graph : (n m : ℕ) (rules edges : List ℕ) → List Claim → Example
  lengths : (a b sum : ℕ) → Example
  refusal : (deck : List ℕ) → Check → Example
  reading : (deck : List ℕ) → Header → (rules edges : List ℕ) → Example

-- a final table of the graph has what is claimed; any two final tables agree on every cell
abbrev pub Holds : Example → Type 0
Holds (graph n m rules edges claims) = (t : List ℕ) × FinalTable (net_of n m rules edges) t × AllClaimed (net_of n m rules edges) t claims
Holds (lengths a b sum) = held_sum a b ≡ sum
Holds (refusal deck answer) = (rules edges : ℕ) → read_check deck rules edges ≡ answer
Holds (reading deck header rules edges) =
    (read_check deck (length rules) (length edges) ≡ Good)
    × (header_of deck ≡ header)
    × (rules_of deck ≡ rules)
    × (edges_of deck ≡ edges)

abbrev pub AllHold : List Example → Type 0
AllHold [] = Unit {0}
AllHold (x ∷ xs) = Holds x × AllHold xs

-- the rules of the sample deck: label rules 0 → 1, 1 → 2, 2 → 3, then pair rules 0 → 1 2, 0 → 1 3, 3 → 0 2, 0 → 0 0
unfoldable pub S : List ℕ
S = 0 ∷ 1 ∷ 65535 ∷ 1 ∷ 2 ∷ 65535 ∷ 2 ∷ 3 ∷ 65535 ∷ 0 ∷ 1 ∷ 2 ∷ 0 ∷ 1 ∷ 3 ∷ 3 ∷ 0 ∷ 2 ∷ 0 ∷ 0 ∷ 0 ∷ []

-- the edges of the sample deck as (from, label, to): their kinds 20, 10, 30, 10, 11 are mapped to the labels 2, 1, 3, 1, 1
unfoldable pub deck_edges : List ℕ
deck_edges = 0 ∷ 2 ∷ 1 ∷ 1 ∷ 1 ∷ 2 ∷ 2 ∷ 3 ∷ 3 ∷ 3 ∷ 1 ∷ 4 ∷ 4 ∷ 1 ∷ 4 ∷ []

-- a block: its first bytes, zeros up to its check, and its check, the lowest byte first
unfoldable pub block : List ℕ → ℕ → ℕ → List ℕ
block front low high = front ++ (replicate (508 - length front) 0 ++ (low ∷ high ∷ 0 ∷ 0 ∷ []))

-- the sample deck: header (5, 4, 3), (4, 7, 5), query 0; the map of kinds 10, 11, 20, 30 to labels 1, 1, 2, 3; the rules and the edges
-- above; the last edge's kind as given, with its block's check
unfoldable pub deck : ℕ → ℕ → List ℕ
deck kind check =
    block (1 ∷ 3 ∷ 0 ∷ 0 ∷ 5 ∷ 0 ∷ 4 ∷ 0 ∷ 3 ∷ 0 ∷ 4 ∷ 0 ∷ 7 ∷ 0 ∷ 5 ∷ []) 32 0
    ++ (block
    (2 ∷ 4 ∷ 1 ∷ 0 ∷ 10 ∷ 0 ∷ 1 ∷ 0 ∷ 0 ∷ 0 ∷ 11 ∷ 0 ∷ 1 ∷ 0 ∷ 0 ∷ 0 ∷ 20 ∷ 0 ∷ 2 ∷ 0 ∷ 0 ∷ 0 ∷ 30 ∷ 0 ∷ 3 ∷ [])
    85 0
    ++ (block
    (3 ∷ 7 ∷ 2 ∷ 0 ∷ 0 ∷ 0 ∷ 1 ∷ 0 ∷ 255 ∷ 255 ∷ 1 ∷ 0 ∷ 2 ∷ 0 ∷ 255 ∷ 255 ∷ 2 ∷ 0 ∷ 3 ∷ 0 ∷ 255 ∷ 255
    ∷ 0 ∷ 0 ∷ 1 ∷ 0 ∷ 2 ∷ 0 ∷ 0 ∷ 0 ∷ 1 ∷ 0 ∷ 3 ∷ 0 ∷ 3 ∷ 0 ∷ 0 ∷ 0 ∷ 2 ∷ [])
    27 6
    ++ block
    (4 ∷ 5 ∷ 3 ∷ 0 ∷ 0 ∷ 0 ∷ 20 ∷ 0 ∷ 1 ∷ 0 ∷ 1 ∷ 0 ∷ 10 ∷ 0 ∷ 2 ∷ 0 ∷ 2 ∷ 0 ∷ 30 ∷ 0 ∷ 3 ∷ 0 ∷ 3 ∷ 0 ∷ 10 ∷ 0 ∷ 4 ∷ 0
    ∷ 4 ∷ 0 ∷ kind ∷ 0 ∷ 4 ∷ [])
    check 0))

unfoldable pub report : List ℕ
report = deck 11 117

unfoldable pub unmapped : List ℕ
unmapped = deck 12 118

unfoldable pub examples : List Example
examples =
    -- a, b, c
    graph 5 4 S deck_edges (cell_is 0 0 4 17180065798 ∷ height_is 3 1 3 2 ∷ middle_is 3 1 3 2 ∷ rule_is 3 1 3 5 ∷ cell_is 0 2 3 EMPTY ∷ [])
    -- d: a path of three edges with label 1
    ∷ graph 4 4 S (0 ∷ 1 ∷ 1 ∷ 1 ∷ 1 ∷ 2 ∷ 2 ∷ 1 ∷ 3 ∷ []) (height_is 0 0 3 3 ∷ middle_is 0 0 3 1 ∷ [])
    -- e: a path of four edges with label 1
    ∷ graph 5 4 S (0 ∷ 1 ∷ 1 ∷ 1 ∷ 1 ∷ 2 ∷ 2 ∷ 1 ∷ 3 ∷ 3 ∷ 1 ∷ 4 ∷ []) (height_is 0 0 4 3 ∷ middle_is 0 0 4 2 ∷ [])
    -- f: two paths of two edges with label 1 from 0 to 3, by 1 and by 2
    ∷ graph 4 4 S (0 ∷ 1 ∷ 1 ∷ 0 ∷ 1 ∷ 2 ∷ 1 ∷ 1 ∷ 3 ∷ 2 ∷ 1 ∷ 3 ∷ []) (middle_is 0 0 3 1 ∷ path_is 0 0 3 (0 ∷ 2 ∷ []) ∷ [])
    -- g: a graph with no edges
    ∷ graph 5 4 S [] (all_empty ∷ depth_is 0 ∷ [])
    -- h
    ∷ lengths 4294967294 1 4294967295
    ∷ lengths 4294967295 1 4294967295
    -- i: the sample deck with its last edge's kind 12, which the map lacks; and the sample deck itself
    ∷ refusal unmapped (refused UnknownKind 4)
    ∷ reading report (record { nodes = 5; nonterminals = 4; labels = 3; entries = 4; rules = 7; edges = 5; query = 0 }) S deck_edges
    ∷ []
