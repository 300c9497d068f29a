-- `packing::unpack` meets its contract: each turn unpacks one word more. Assumes nothing.
use Rattle.std.proofs.Common.{◌≡◌}
use Rattle.words.specs.Tab.{over}
use Rattle.packing.specs.Packed.{unpacked}
use Rattle.packing.proofs.unpack.Given as goal

abbrev pub invariant-loop-w : goal.invariant-loop-w
invariant-loop-w g l = g.W.Word.values l.ws ≡ over (unpacked g.W.Word.SIZE l.s l.w) (g.W.Word.values l.initial.ws)
