-- `deck::blocks::first_of` meets its contract. Assumes nothing.
use Rattle.deck.specs.Blocks.{type_number}
use Rattle.deck.proofs.Readers.{Lower}
use Rattle.deck.proofs.blocks.first_of.Given as goal

abbrev pub invariant-loop-block : goal.invariant-loop-block
invariant-loop-block l = Lower l.deck (type_number l.kind) l.block-iterator
