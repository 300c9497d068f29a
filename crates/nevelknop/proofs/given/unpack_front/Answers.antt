-- `nevelknop::given::unpack_front` meets its contract. Assumes nothing.
use Rattle.nevelknop.proofs.Lent.{front_words}
use Rattle.nevelknop.proofs.given.unpack_front.Goals as goal

pub returns : goal.returns
returns g c =
    front_words g.W.Word.value g.W.Word.values g.met.W.Word.each g.W.Word.SIZE c.args.bytes.now c.args.room.now _ _ c.unpack.ensures
    (rw c.SIZE.ensures at c.min-count.ensures)
