-- `text::pen::Pen::opening` meets its contract: one piece behind another. Assumes nothing.
use Rattle.text.specs.Text.{ascii, opening_line}
use Rattle.text.proofs.Pens.{penned_more}
use Rattle.text.proofs.pen.Pen.opening.Goals as goal

pub returns : goal.returns
unfolding ascii opening_line
returns c = penned_more (penned_more (penned_more (penned_more c.labelled.ensures c.labelled-2.ensures) c.labelled-3.ensures) c.labelled-4.ensures) c.letters.ensures
