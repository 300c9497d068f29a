-- `packing::pack` meets its contract: each turn packs one word more. Assumes nothing.
use Rattle.std.proofs.Common.{◌≡◌, take}
use Rattle.words.specs.Tab.{over}
use Rattle.packing.specs.Packed.{packed}
use Rattle.packing.proofs.pack.Given as goal

abbrev pub invariant-loop-w : goal.invariant-loop-w
invariant-loop-w g l = l.s ≡ over (packed g.W.Word.SIZE (take l.w (g.W.Word.values l.ws))) l.initial.s
