-- `text::pen::Pen::closing` meets its contract: one piece behind another. Assumes nothing.
use Rattle.text.specs.Text.{ascii, closing_line}
use Rattle.text.proofs.Pens.{penned_more}
use Rattle.text.proofs.pen.Pen.closing.Goals as goal

pub returns : goal.returns
unfolding ascii closing_line
returns c = penned_more (penned_more c.labelled.ensures c.labelled-2.ensures) c.letters.ensures
