-- `deck::blocks::total` meets its contract. Assumes nothing.
use Rattle.deck.specs.Blocks.{type_number}
use Rattle.deck.proofs.Readers.{Counted}
use Rattle.deck.proofs.blocks.total.Given as goal

abbrev pub invariant-loop-block : goal.invariant-loop-block
invariant-loop-block l = Counted l.deck (type_number l.kind) l.block-iterator l.sum
