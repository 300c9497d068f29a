-- `packing::unpack` meets its contract: each turn unpacks one word more. Assumes nothing.
use Rattle.std.proofs.Common.{arith}
use Rattle.packing.proofs.Packed.{unpack_none, unpack_one}
use Rattle.packing.proofs.unpack.Goals as goal

pub loop-w-init : goal.loop-w-init
loop-w-init g c = unpack_none g.W.Word.SIZE c.args.s.now (g.W.Word.values c.args.ws.now)

pub loop-w-preserved : goal.loop-w-preserved
loop-w-preserved g c =
    let word = rw c.SIZE-in-loop-w.ensures at c.read.ensures in
    unpack_one _ _ g.met.W.Word.each _ _ _ _ _ _ (omega arith) c.loop-w.invariant word
