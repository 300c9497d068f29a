-- The Boolean closure on rows of bits: how rows grow, and when a round is the last. A is entered at (i, j) for each edge
-- (i, x, j) and rule A → x; then products are taken in until nothing changes, where A is at (i, j) of the product if B is at
-- (i, k) and C at (k, j) for a rule A → B C. Assumes nothing.
use Rattle.std.specs.Prelude.{◌≡◌, List, Bool, true, false, cond, ℕ, ◌+◌, ◌*◌, ◌/◌, ◌^◌, ◌≤◌, ◌<◌, length, get_or, set, replicate, eqb}
use Rattle.std.specs.Int.Bits.{bit_or}
use Rattle.words.specs.Tab.{over}
use Rattle.meaning.specs.Net.{Edge, PairRule, LabelRule, word}
use Rattle.meaning.specs.Table.{total}
use Rattle.meaning.specs.Rows.{bit, row_at}
use Rattle.numbers.specs.declared.Numbers.{Numbers}

-- ---- a row of a product

-- bit j of a row that the bits of `chosen` choose among the rows from `base` on
pub record Chosen (rs : List ℕ) (base chosen j : ℕ) : Type 0 where
  pub k : ℕ
  pub choice : bit chosen k ≡ 1
  pub row : bit (get_or rs (base + k) 0) j ≡ 1

-- w is the union of the rows from `base` on that the bits of `chosen` choose
pub record Union (rs : List ℕ) (base chosen w : ℕ) : Type 0 where
  pub only : (j : ℕ) → bit w j ≡ 1 → Chosen rs base chosen j
  pub every : (j : ℕ) → Chosen rs base chosen j → bit w j ≡ 1

-- row a holds the product of row b with the rows from c on
abbrev pub Full : ℕ → ℕ → ℕ → List ℕ → Type 0
Full a b c rs = (j : ℕ) → Chosen rs c (get_or rs b 0) j → bit (get_or rs a 0) j ≡ 1

-- ---- rows that grow

-- the rows after w was taken into row a
unfoldable pub united : List ℕ → ℕ → ℕ → List ℕ
united rs a w = set rs a (bit_or (get_or rs a 0) w)

-- rs' comes from rs by taking words into rows, each as Step allows
pub data RowsGrown (Step : List ℕ → ℕ → ℕ → Type 0) (rs : List ℕ) : List ℕ → Type 0 where
  none : RowsGrown Step rs rs
  more : {rs' : List ℕ} (a w : ℕ) → RowsGrown Step rs rs' → Step rs' a w → RowsGrown Step rs (united rs' a w)

-- for a label rule A → x and an edge from i to j with label x: bit j into row (A, i)
pub record LabelStep (n : ℕ) (rules edges rs : List ℕ) (a w : ℕ) : Type 0 where
  pub r : ℕ
  pub e : ℕ
  pub A : ℕ
  pub x : ℕ
  pub i : ℕ
  pub j : ℕ
  pub rule : LabelRule rules r A x
  pub edge : Edge edges e i x j
  pub row : a ≡ A * n + i
  pub is : w ≡ 2 ^ j

-- for a pair rule A → B C: into row (A, i) the union of the rows (C, k) that the bits k of row (B, i) choose
pub record PairStep (n : ℕ) (rules rs : List ℕ) (a w : ℕ) : Type 0 where
  pub r : ℕ
  pub A : ℕ
  pub B : ℕ
  pub C : ℕ
  pub i : ℕ
  pub rule : PairRule rules r A B C
  pub from : i < n
  pub row : a ≡ A * n + i
  pub is : Union rs (C * n) (row_at n rs B i) w

-- ---- the start

-- the first c rows zeroed, the words past them kept
abbrev pub zeroed : ℕ → List ℕ → List ℕ
zeroed c rs = over (replicate c 0) rs

-- the rows after edge e was entered for a rule with this label, whose head's rows begin at `base`
unfoldable pub entered : List ℕ → ℕ → ℕ → ℕ → List ℕ → List ℕ
entered edges e base label rs = cond (eqb (word edges e 1) label) (united rs (base + word edges e 0) (2 ^ word edges e 2)) rs

-- what that asks: the edge, its row and its bit are there
pub record EdgeFits (edges : List ℕ) (e base : ℕ) (rs : List ℕ) : Type 0 where
  pub edge : e < length edges / 3
  pub row : base + word edges e 0 < length rs
  pub to : word edges e 2 < 64

-- if rule r is a label rule that edge e fits, its bit is set
abbrev pub LeafBit : ℕ → List ℕ → List ℕ → ℕ → ℕ → List ℕ → Type 0
LeafBit n rules edges r e rs = (A x i j : ℕ) → LabelRule rules r A x → Edge edges e i x j → bit (row_at n rs A i) j ≡ 1

abbrev pub LeafBits : ℕ → List ℕ → List ℕ → ℕ → List ℕ → Type 0
LeafBits n rules edges r rs = (e : ℕ) → LeafBit n rules edges r e rs

abbrev pub AllLeafBits : ℕ → List ℕ → List ℕ → List ℕ → Type 0
AllLeafBits n rules edges rs = (r : ℕ) → LeafBits n rules edges r rs

-- label rules have brought rs to rs', and P about
pub record Entered (n : ℕ) (rules edges : List ℕ) (P : List ℕ → Type 0) (rs rs' : List ℕ) : Type 0 where
  pub grown : RowsGrown (LabelStep n rules edges) rs rs'
  pub leaves : P rs'

-- ---- the rounds

-- every product of the pair rule r is in its row
abbrev pub Products : ℕ → List ℕ → ℕ → List ℕ → Type 0
Products n rules r rs = (A B C i : ℕ) → PairRule rules r A B C → i < n → Full (A * n + i) (B * n + i) (C * n) rs

abbrev pub AllProducts : ℕ → List ℕ → List ℕ → Type 0
AllProducts n rules rs = (r : ℕ) → Products n rules r rs

-- a round, or a part of it, has changed a row, and then the sum of the rows has grown; or it has changed none, and P holds
abbrev pub Went : Bool → (List ℕ → Type 0) → List ℕ → List ℕ → Type 0
Went true P rs rs' = total rs (length rs) < total rs' (length rs)
Went false P rs rs' = (rs' ≡ rs) × P rs

-- what a product asks: its rows are there
pub record JoinFits (rs : List ℕ) (a b c : ℕ) : Type 0 where
  pub head : a < length rs
  pub left : b < length rs
  pub right : (k : ℕ) → bit (get_or rs b 0) k ≡ 1 → c + k < length rs

-- row a has taken in the product of row b with the rows from c on
pub record ProductTaken (rs : List ℕ) (a b c : ℕ) (changed : Bool) (rs' : List ℕ) : Type 0 where
  pub w : ℕ
  pub product : Union rs c (get_or rs b 0) w
  pub is : rs' ≡ united rs a w
  pub went : Went changed (Full a b c) rs rs'

-- pair rules have brought rs to rs'
pub record Worked (n : ℕ) (rules : List ℕ) (P : List ℕ → Type 0) (rs : List ℕ) (changed : Bool) (rs' : List ℕ) : Type 0 where
  pub grown : RowsGrown (PairStep n rules) rs rs'
  pub went : Went changed P rs rs'

-- the rows after the last round
pub record RowsClosed (n : ℕ) (rules rs rs' : List ℕ) : Type 0 where
  pub grown : RowsGrown (PairStep n rules) rs rs'
  pub still : AllProducts n rules rs'

-- P of every set bit j of every row (A, i)
abbrev pub EachBit : Numbers → (ℕ → ℕ → ℕ → Type 0) → List ℕ → Type 0
EachBit numbers P rs = (A i j : ℕ) → A < numbers.nonterminals → i < numbers.nodes → bit (row_at numbers.nodes rs A i) j ≡ 1 → P A i j

-- every pair rule names nonterminals
abbrev pub InRange : Numbers → List ℕ → Type 0
InRange numbers rules = (r A B C : ℕ) → PairRule rules r A B C
    → (A < numbers.nonterminals) × (B < numbers.nonterminals) × (C < numbers.nonterminals)

-- what a round asks: room for all rows, rules in range, and "bits from the node count up are clear"
pub record RowsReady (numbers : Numbers) (rules rs : List ℕ) : Type 0 where
  pub long : numbers.nonterminals * numbers.nodes ≤ length rs
  pub range : InRange numbers rules
  pub clear : EachBit numbers (λ A i j. j < numbers.nodes) rs
