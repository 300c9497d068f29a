-- `text::pen::Pen::refused` meets its contract: one piece behind another. Assumes nothing.
use Rattle.text.specs.Text.{ascii, refused_line}
use Rattle.text.proofs.Pens.{penned_more}
use Rattle.text.proofs.pen.Pen.refused.Goals as goal

pub returns : goal.returns
unfolding ascii refused_line
returns c = rw (c.from.ensures, c.number.ensures) at (penned_more (penned_more c.labelled.ensures c.labelled-2.ensures) c.letters.ensures)
