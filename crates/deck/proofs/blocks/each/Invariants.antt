-- What `deck::blocks::each` keeps: it is the same deck, and every block so far passed. Assumes nothing.
use mathlib.Core.Path.{◌≡◌}
use Prim.Native.Nat.{ℕ}
use Rattle.words.specs.Refusals.{Check}
use Rattle.deck.specs.declared.reader.Block.{Block}
use Rattle.deck.proofs.Readers.{Passed}
use Rattle.deck.proofs.blocks.each.Given as goal

abbrev pub invariant-loop-block : goal.invariant-loop-block
invariant-loop-block g l = record {
  deck : l.block-iterator.deck.now ≡ l.deck;
  passed : (c : ℕ → Check) → ((b : Block) (q : Check) → b.deck.now ≡ l.deck → g.F.Fn.post l.check (b, tt) q → q ≡ c b.position) → Passed c l.deck l.block-iterator;
}
