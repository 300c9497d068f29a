-- `deck::reader::Block::kind` meets its contract. Assumes nothing.
use Rattle.deck.proofs.Framed.{typed}
use Rattle.deck.proofs.reader.Block.kind.Goals as goal

pub unwrap-requires : goal.unwrap-requires
unwrap-requires c = typed _ _ _ _ c.requires c.type_byte.ensures c.try_from.ensures
