-- A deck's blocks and records, and what they hold. Assumes nothing.
use Rattle.std.specs.Prelude.{List, Bool, false, cond, not, ◌&&◌, ◌||◌, ◌≡◌, ℕ, zero, suc, ◌+◌, ◌*◌, ◌-◌, ◌/◌, ◌%◌, length, get_or, eqb, leb, Result, MatchResult}
use Rattle.words.specs.Bytes.{le_at}
use Rattle.words.specs.First.{first}
use Rattle.numbers.specs.Numbers.{between}
use Rattle.deck.specs.declared.reader.BlockType.{BlockType}
use Rattle.deck.specs.declared.reader.BlockType.TheVariants.{Header, Map, Rules, Edges}

-- a deck is whole blocks of 512 bytes
abbrev pub blocks : List ℕ → ℕ
blocks d = length d / 512

-- of block b: byte 0 is its type, byte 1 counts its used records, bytes 2 and 3 are its own number
abbrev pub type_of : List ℕ → ℕ → ℕ
type_of d b = get_or d (b * 512) 0

abbrev pub used_of : List ℕ → ℕ → ℕ
used_of d b = get_or d (b * 512 + 1) 0

abbrev pub stated_number : List ℕ → ℕ → ℕ
stated_number d b = le_at 2 d (b * 512 + 2)

-- the numbers of the types: 1 header, 2 map, 3 rules, 4 edges
abbrev pub type_number : BlockType → ℕ
type_number Header = 1
type_number Map = 2
type_number Rules = 3
type_number Edges = 4

-- r is the type of this number, if there is one
abbrev pub TypeNumbered : ℕ → Result BlockType ℕ → Type 0
TypeNumbered n r = MatchResult r (λ t. type_number t ≡ n) (λ _. between 1 4 n ≡ false)

-- the sum of n bytes from p on; bytes 508 to 511 of a block hold that of its bytes 0 to 507
unfoldable pub sum_at : ℕ → List ℕ → ℕ → ℕ
sum_at zero d p = 0
sum_at (suc n) d p = sum_at n d p + get_or d (p + n) 0

unfoldable pub right_sum : List ℕ → ℕ → Bool
right_sum d b = eqb (sum_at 508 d (b * 512)) (le_at 4 d (b * 512 + 508))

-- block 0 is a header; from block 1 on, types are 2 to 4 and none is less than that of the block before
abbrev pub right_type : List ℕ → ℕ → Bool
right_type d b = cond (eqb b 0) (eqb (type_of d b) 1) (between 2 4 (type_of d b) && leb (type_of d (b - 1)) (type_of d b))

unfoldable pub right_order : List ℕ → ℕ → Bool
right_order d b = eqb (stated_number d b) b && right_type d b

-- word w of block b: bytes 4 to 507 are 84 records of three 16-bit words
abbrev pub word_at : List ℕ → ℕ → ℕ → ℕ
word_at d b w = le_at 2 d (b * 512 + 4 + 2 * w)

-- the words of block b from word w on are all zero: so is their bytes' sum
abbrev pub zeros_from : List ℕ → ℕ → ℕ → Bool
zeros_from d b w = eqb (sum_at (504 - 2 * w) d (b * 512 + 4 + 2 * w)) 0

-- the last block of its type
abbrev pub last_of_type : List ℕ → ℕ → Bool
last_of_type d b = eqb (b + 1) (blocks d) || not (eqb (type_of d (b + 1)) (type_of d b))

-- a header uses three records, and all behind its seven numbers is zero
abbrev pub right_header : List ℕ → ℕ → Bool
right_header d b = eqb (used_of d b) 3 && zeros_from d b 7

-- another block uses 1 to 84 records, and 84 unless it is the last of its type; the room behind them is zero
abbrev pub right_records : List ℕ → ℕ → Bool
right_records d b = between 1 84 (used_of d b) && (eqb (used_of d b) 84 || last_of_type d b) && zeros_from d b (3 * used_of d b)

-- how many records of type t block b has, and the first n blocks have
abbrev pub records_in : List ℕ → ℕ → ℕ → ℕ
records_in d t b = cond (eqb (type_of d b) t) (used_of d b) 0

unfoldable pub total : List ℕ → ℕ → ℕ → ℕ
total d t zero = 0
total d t (suc n) = total d t n + records_in d t n

-- the first block of type t, where types never fall
unfoldable pub first_of : List ℕ → ℕ → ℕ
first_of d t = first (λ b. leb t (type_of d b)) (blocks d)

-- word k of record r of type t: all its blocks but the last have 84 records
unfoldable pub record_at : List ℕ → ℕ → ℕ → ℕ → ℕ
record_at d t r k = word_at d (first_of d t + r / 84) (3 * (r % 84) + k)
