-- `text::pen::Pen::letters` meets its contract: the first bytes of s are written. Assumes nothing.
use lib.ListN.{take}
use Rattle.text.specs.Pen.{Penned}
use Rattle.text.proofs.pen.Pen.letters.Given as goal

abbrev pub invariant-loop-b : goal.invariant-loop-b
invariant-loop-b l = Penned l.fn.self l.self (take l.b-index l.s)
