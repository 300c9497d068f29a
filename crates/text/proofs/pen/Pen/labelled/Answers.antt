-- `text::pen::Pen::labelled` meets its contract: one piece behind another. Assumes nothing.
use Rattle.text.proofs.Pens.{penned_more}
use Rattle.text.proofs.pen.Pen.labelled.Goals as goal

pub returns : goal.returns
returns c = penned_more c.letters.ensures c.number.ensures
