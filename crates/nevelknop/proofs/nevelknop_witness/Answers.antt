-- `nevelknop::nevelknop_witness` meets its contract. Assumes nothing.
use Rattle.nevelknop.proofs.nevelknop_witness.Goals as goal

pub returns : goal.returns
returns c = rw c.answer.ensures (rw (c.new-given.ensures.0, c.new-given.ensures.1.0, c.new-given.ensures.1.1) at c.witness_bytes.ensures.kept)
