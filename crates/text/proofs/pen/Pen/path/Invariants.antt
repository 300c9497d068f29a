-- `text::pen::Pen::path` meets its contract: the first edges are written. Assumes nothing.
use lib.ListN.{take}
use Rattle.text.specs.Text.{path_text}
use Rattle.text.specs.Pen.{Penned}
use Rattle.text.proofs.pen.Pen.path.Given as goal

abbrev pub invariant-loop-e : goal.invariant-loop-e
invariant-loop-e l = Penned l.fn.self l.self (path_text (take l.e-index l.edges))
