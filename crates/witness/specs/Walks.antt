-- What the inner functions promise. Assumes nothing.
use Rattle.std.specs.Prelude.{◌≡◌, List, ◌++◌, Bool, cond, ◌&&◌, ℕ, ◌/◌, ◌%◌, ◌≤◌, ◌<◌, length, eqb, ltb, Option, Some, None}
use Rattle.key.specs.Keys.{EMPTY, height_of}
use Rattle.key.specs.declared.Parts.{Parts}
use Rattle.words.specs.Tab.{over}
use Rattle.meaning.specs.Net.{Net, Sane, net_of, word}
use Rattle.meaning.specs.Trees.{joined}
use Rattle.meaning.specs.Table.{at}
use Rattle.meaning.specs.Lengths.{HELD, held_sum, RightTable, Recorded}
use Rattle.meaning.specs.Computed.{is_pair, is_leaf, lowest_edge}
use Rattle.numbers.specs.declared.Numbers.{Numbers}
use Rattle.witness.specs.Answers.{part}
use Rattle.witness.specs.declared.spot.Spot.{Spot}
use Rattle.witness.specs.declared.table.Held.{Held}

-- the lowest edge from i to j with label x, or none
unfoldable pub found_edge : List ℕ → ℕ → ℕ → ℕ → Option ℕ
found_edge edges i x j = cond (ltb (lowest_edge edges i x j) (length edges / 3)) (Some (lowest_edge edges i x j)) None

-- the word of a spot's cell
abbrev pub at_spot : List ℕ → Spot → ℕ
at_spot l s = at s.nodes l s.a s.i s.j

-- the spot of cell number c
abbrev pub spot_of : ℕ → ℕ → Spot
spot_of n c = record { nodes = n; a = c / n / n; i = c / n % n; j = c % n }

-- the two sides of a spot for a nonterminal and a middle
abbrev pub left_spot : Spot → ℕ → ℕ → Spot
left_spot s a k = record { nodes = s.nodes; a = a; i = s.i; j = k }

abbrev pub right_spot : Spot → ℕ → ℕ → Spot
right_spot s a k = record { nodes = s.nodes; a = a; i = k; j = s.j }

-- the height of a cell with key k is above 1, its middle is a node, and its sides for B and C are filled and give it
-- that height and its length l
unfoldable pub sides_right : List ℕ → List ℕ → Spot → Parts → ℕ → ℕ → ℕ → Bool
sides_right t ls s k B C l =
    let x = left_spot s B k.middle in
    let y = right_spot s C k.middle in
    ltb 1 k.height
    && (ltb k.middle s.nodes
    && (ltb (at_spot t x) EMPTY
    && (ltb (at_spot t y) EMPTY
    && (eqb k.height (joined (height_of (at_spot t x)) (height_of (at_spot t y))) && eqb l (held_sum (at_spot ls x) (at_spot ls y))))))

-- what the table check asks of a filled cell of height 1, and of one of another height
unfoldable pub leaf_right : List ℕ → List ℕ → Spot → Parts → ℕ → Bool
leaf_right rules edges s k l = is_leaf rules edges s.a s.i s.j k.rule && (eqb k.middle s.i && eqb l 1)

unfoldable pub pair_right : List ℕ → List ℕ → List ℕ → Spot → Parts → ℕ → Bool
pair_right rules t ls s k l = is_pair rules s.a k.rule && sides_right t ls s k (word rules k.rule 1) (word rules k.rule 2) l

-- the limits that keep cell numbers small
pub record Sizes (numbers : Numbers) : Type 0 where
  pub some : 0 < numbers.nodes
  pub nodes : numbers.nodes ≤ 64
  pub nonterminals : numbers.nonterminals ≤ 32

-- arguments in range
pub record Asked (numbers : Numbers) (a i j : ℕ) : Type 0 where
  pub sizes : Sizes numbers
  pub head : a < numbers.nonterminals
  pub from : i < numbers.nodes
  pub to : j < numbers.nodes

-- an edge along a cell has label x, and there is room for it
pub record EdgeReady (edges : List ℕ) (s : Spot) (x : ℕ) (path : List ℕ) : Type 0 where
  pub few : length edges / 3 ≤ 4096
  pub edge : lowest_edge edges s.i x s.j < length edges / 3
  pub room : 0 < length path

-- the net of a spot's table, with m nonterminals
abbrev pub net_at : Held → Spot → ℕ → Net
net_at held s m = net_of s.nodes m held.lists.rules.now held.lists.edges.now

-- what a walk asks: an accepted table, and a filled cell whose length is no more than we hold
pub record Walkable (held : Held) (s : Spot) : Type 0 where
  pub nonterminals : ℕ
  pub sane : Sane (net_at held s nonterminals)
  pub few : length held.lists.edges.now / 3 ≤ 4096
  pub right : RightTable (net_at held s nonterminals) held.table.now held.lengths.now
  pub head : s.a < nonterminals
  pub from : s.i < s.nodes
  pub to : s.j < s.nodes
  pub filled : at_spot held.table.now s < EMPTY
  pub short : at_spot held.lengths.now s < HELD

-- r words w are written, the rest is kept
pub record WordsWritten (w entry exit : List ℕ) (r : ℕ) : Type 0 where
  pub count : r ≡ length w
  pub words : exit ≡ over w entry

-- what a walk gives: of the path that the table records, the part from a position on that fits
pub record PartWritten (held : Held) (s : Spot) (from : ℕ) (entry exit : List ℕ) (r : ℕ) : Type 0 where
  pub fits : r ≤ length entry
  pub walk : (m : ℕ) (p : List ℕ) → Recorded (net_at held s m) held.table.now s.a s.i s.j p
      → WordsWritten (part from (length entry) p) entry exit r

-- what an expansion gives: the same of the two sides' paths, one after the other
pub record SidesWritten (held : Held) (x y : Spot) (from : ℕ) (entry exit : List ℕ) (r : ℕ) : Type 0 where
  pub fits : r ≤ length entry
  pub walk : (m : ℕ) (p q : List ℕ) → Recorded (net_at held x m) held.table.now x.a x.i x.j p → Recorded (net_at held y m) held.table.now y.a y.i y.j q
      → WordsWritten (part from (length entry) (p ++ q)) entry exit r
