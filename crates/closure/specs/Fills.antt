-- What the filling of the lengths is proved with: lengths that are known so far, 0 where not yet. Assumes nothing.
use Rattle.std.specs.Prelude.{◌≡◌, List, ◌≢◌, ◌⊎◌, Bool, true, false, cond, ℕ, ◌/◌, ◌%◌, ◌≤◌, ◌<◌, length, get_or, drop, eqb}
use Rattle.key.specs.Keys.{EMPTY, height_of, middle_of, rule_of}
use Rattle.meaning.specs.Net.{word}
use Rattle.meaning.specs.Table.{cell, sum}
use Rattle.meaning.specs.Lengths.{held_sum}
use Rattle.closure.specs.declared.Size.{Size}
use Rattle.closure.specs.Sizes.{count}

-- the cells of the two sides of a pair cell c
abbrev pub left_side : Size → List ℕ → List ℕ → ℕ → ℕ
left_side z rules t c = cell z.nodes (word rules (rule_of (get_or t c 0)) 1) (c / z.nodes % z.nodes) (middle_of (get_or t c 0))

abbrev pub right_side : Size → List ℕ → List ℕ → ℕ → ℕ
right_side z rules t c = cell z.nodes (word rules (rule_of (get_or t c 0)) 2) (middle_of (get_or t c 0)) (c % z.nodes)

-- a filled cell of greater height than 1
pub record PairCell (t : List ℕ) (c : ℕ) : Type 0 where
  pub filled : get_or t c 0 < EMPTY
  pub high : height_of (get_or t c 0) ≢ 1

-- a table in which the sides of every pair cell are cells
pub record Linked (z : Size) (rules t : List ℕ) : Type 0 where
  pub nodes : 0 < z.nodes
  pub long : count z ≤ length t
  pub left : (c : ℕ) → c < count z → PairCell t c → left_side z rules t c < count z
  pub right : (c : ℕ) → c < count z → PairCell t c → right_side z rules t c < count z

-- a length word so far: not known yet, 1 for height 1, or the sum of two sides that are known
pub data KnownCell (z : Size) (rules t ls : List ℕ) (c : ℕ) : Type 0 where
  unknown : get_or ls c 0 ≡ 0 → KnownCell z rules t ls c
  one : get_or t c 0 < EMPTY → height_of (get_or t c 0) ≡ 1 → get_or ls c 0 ≡ 1 → KnownCell z rules t ls c
  sides : PairCell t c → get_or ls (left_side z rules t c) 0 ≢ 0 → get_or ls (right_side z rules t c) 0 ≢ 0
      → get_or ls c 0 ≡ held_sum (get_or ls (left_side z rules t c) 0) (get_or ls (right_side z rules t c) 0) → KnownCell z rules t ls c

pub record KnownLengths (z : Size) (rules t ls : List ℕ) : Type 0 where
  pub long : count z ≤ length ls
  pub cell : (c : ℕ) → c < count z → KnownCell z rules t ls c

-- whether a cell's length is wanted: it is filled, and its length is not known yet
abbrev pub Wanted : List ℕ → List ℕ → ℕ → Bool → Type 0
Wanted t ls c true = (get_or t c 0 < EMPTY) × (get_or ls c 0 ≡ 0)
Wanted t ls c false = (get_or t c 0 ≡ EMPTY) ⊎ (get_or ls c 0 ≢ 0)

-- nothing is left to do at a cell: it is empty, or known, or a side of it is not known
pub data Idle (z : Size) (rules t ls : List ℕ) (c : ℕ) : Type 0 where
  empty : get_or t c 0 ≡ EMPTY → Idle z rules t ls c
  known : get_or ls c 0 ≢ 0 → Idle z rules t ls c
  waits : PairCell t c → (get_or ls (left_side z rules t c) 0 ≡ 0) ⊎ (get_or ls (right_side z rules t c) 0 ≡ 0) → Idle z rules t ls c

-- how many of the first c words are 0
abbrev pub zeros : List ℕ → ℕ → ℕ
zeros ls c = sum (λ a. cond (eqb (get_or ls a 0) 0) 1 0) c

-- whether lengths became known
abbrev pub MoreKnown : Size → List ℕ → List ℕ → Bool → Type 0
MoreKnown z ls ls' true = zeros ls' (count z) < zeros ls (count z)
MoreKnown z ls ls' false = ls' ≡ ls

pub record Filled (z : Size) (rules t ls ls' : List ℕ) (moved : Bool) : Type 0 where
  pub known : KnownLengths z rules t ls'
  pub grown : MoreKnown z ls ls' moved
  pub kept : drop (count z) ls' ≡ drop (count z) ls

-- and at the cells that P asks for nothing is left to do if none did
pub record LengthsFilled (z : Size) (rules t ls ls' : List ℕ) (P : ℕ → Type 0) (moved : Bool) : Type 0 where
  pub filled : Filled z rules t ls ls' moved
  pub idle : moved ≡ false → (c : ℕ) → P c → Idle z rules t ls' c

-- all that can be known is
pub record Finished (z : Size) (rules t ls ls' : List ℕ) : Type 0 where
  pub known : KnownLengths z rules t ls'
  pub idle : (c : ℕ) → c < count z → Idle z rules t ls' c
  pub kept : drop (count z) ls' ≡ drop (count z) ls
