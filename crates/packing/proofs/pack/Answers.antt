-- `packing::pack` meets its contract: each turn packs one word more. Assumes nothing.
use Rattle.std.proofs.Common.{arith}
use Rattle.packing.proofs.Packed.{pack_none, pack_one}
use Rattle.packing.proofs.pack.Goals as goal

pub loop-w-init : goal.loop-w-init
loop-w-init g c = pack_none g.W.Word.SIZE (g.W.Word.values c.args.ws.now) c.args.s.now

pub loop-w-preserved : goal.loop-w-preserved
loop-w-preserved g c =
    let word = rw c.SIZE-in-loop-w.ensures at c.write.ensures in
    pack_one _ _ g.met.W.Word.each _ _ _ _ _ _ _ (omega arith) (rw (← c.SIZE.ensures) (omega arith)) c.loop-w.invariant c.index-ws-w.is word
