-- A grammar in normal form and a graph, as relations; and the ones that two lists of 16-bit words hold. Assumes nothing.
use Rattle.std.specs.Prelude.{◌≡◌, List, ◌≢◌, ℕ, ◌+◌, ◌*◌, ◌/◌, ◌≤◌, ◌<◌, length, get_or}

-- word k of record r in a list of records of three words
unfoldable pub word : List ℕ → ℕ → ℕ → ℕ
word l r k = get_or l (3 * r + k) 0

-- edge e, a record (from, label, to), goes from i to j with label x; a list holds a third as many records as words
pub record Edge (edges : List ℕ) (e i x j : ℕ) : Type 0 where
  pub inside : e < length edges / 3
  pub from : word edges e 0 ≡ i
  pub label : word edges e 1 ≡ x
  pub to : word edges e 2 ≡ j

-- A grammar and a graph. Each rule is a pair rule A → B C or a label rule A → x; there are no other rules.
-- The theorems know rules by these two relations alone, so that later another list, or two, can hold them.
pub record Net : Type 1 where
  pub nodes : ℕ
  pub nonterminals : ℕ
  pub rules : ℕ
  pub Pair : ℕ → ℕ → ℕ → ℕ → Type 0  -- Pair r A B C: rule r is A → B C
  pub Leaf : ℕ → ℕ → ℕ → Type 0  -- Leaf r A x: rule r is A → x
  pub edges : List ℕ

-- the rule of record r of a list: (A, B, C) is the pair rule A → B C, and (A, x, 65535) the label rule A → x
pub record PairRule (rules : List ℕ) (r A B C : ℕ) : Type 0 where
  pub inside : r < length rules / 3
  pub head : word rules r 0 ≡ A
  pub left : word rules r 1 ≡ B
  pub right : word rules r 2 ≡ C
  pub pair : word rules r 2 ≢ 65535

pub record LabelRule (rules : List ℕ) (r A x : ℕ) : Type 0 where
  pub inside : r < length rules / 3
  pub head : word rules r 0 ≡ A
  pub label : word rules r 1 ≡ x
  pub mark : word rules r 2 ≡ 65535

-- the net that two lists hold, with n nodes and m nonterminals
abbrev pub net_of : ℕ → ℕ → List ℕ → List ℕ → Net
net_of n m rules edges = record {
  nodes = n;
  nonterminals = m;
  rules = length rules / 3;
  Pair = PairRule rules;
  Leaf = LabelRule rules;
  edges = edges;
}

pub record InPair (g : Net) (r A B C : ℕ) : Type 0 where
  pub rule : r < g.rules
  pub head : A < g.nonterminals
  pub left : B < g.nonterminals
  pub right : C < g.nonterminals

pub record InLeaf (g : Net) (r A : ℕ) : Type 0 where
  pub rule : r < g.rules
  pub head : A < g.nonterminals

pub record InEdge (g : Net) (i j : ℕ) : Type 0 where
  pub from : i < g.nodes
  pub to : j < g.nodes

-- what the theorems ask of a net: numbers within their limits, and one rule to a number and a head
pub record Sane (g : Net) : Type 0 where
  pub nodes : g.nodes ≤ 64
  pub nonterminals : g.nonterminals ≤ 32
  pub rules : g.rules ≤ 256
  pub pairs : (r A B C : ℕ) → g.Pair r A B C → InPair g r A B C
  pub leaves : (r A x : ℕ) → g.Leaf r A x → InLeaf g r A
  pub ends : (e i x j : ℕ) → Edge g.edges e i x j → InEdge g i j
  pub one_pair : (r A B C B' C' : ℕ) → g.Pair r A B C → g.Pair r A B' C' → (B ≡ B') × (C ≡ C')
  pub one_label : (r A x x' : ℕ) → g.Leaf r A x → g.Leaf r A x' → x ≡ x'
  pub apart : (r A B C x : ℕ) → g.Pair r A B C → g.Leaf r A x → ⊥
