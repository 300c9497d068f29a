-- The reader over a lent deck. Assumes nothing.
use Rattle.std.specs.Prelude.{◌≡◌, List, ℕ, ◌+◌, ◌-◌, ◌<◌, ◌≤◌, Option, Some, None}
use Rattle.words.specs.Refusals.{Check, scan}
use Rattle.deck.specs.Blocks.{blocks}
use Rattle.deck.specs.declared.reader.Block.{Block}
use Rattle.deck.specs.declared.reader.Reader.{Reader}

-- how many blocks it has still to give
abbrev pub blocks_left : Reader → ℕ
blocks_left r = blocks r.deck.now - r.next

-- r gives block b, the one at its position, and moves on
pub record GivesBlock (r : Reader) (b : Block) (moved : Reader) : Type 0 where
  pub inside : r.next < blocks r.deck.now
  pub block_deck : b.deck.now ≡ r.deck.now
  pub block_position : b.position ≡ r.next
  pub same_deck : moved.deck.now ≡ r.deck.now
  pub on : moved.next ≡ r.next + 1

-- a block is given, or the deck has no more
abbrev pub GivesNext : Reader → Option Block → Reader → Type 0
GivesNext r (Some b) moved = GivesBlock r b moved
GivesNext r None moved = blocks r.deck.now ≤ r.next

-- a check that has this precondition may be asked of each block of d
abbrev pub CanAskEach : (Block → Type 0) → List ℕ → Type 0
CanAskEach pre d = (b : Block) → b.deck.now ≡ d → pre b

-- r is what the checks of d's blocks in turn answer, for each c that the calls of a closure answer as
abbrev pub EachIs : (Block → Check → Type 0) → List ℕ → Check → Type 0
EachIs post d r = (c : ℕ → Check) → ((b : Block) (q : Check) → b.deck.now ≡ d → post b q → q ≡ c b.position) → r ≡ scan c (blocks d)
