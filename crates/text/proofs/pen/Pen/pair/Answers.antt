-- `text::pen::Pen::pair` meets its contract: one piece behind another. Assumes nothing.
use Rattle.text.specs.Text.{ascii, pair_head}
use Rattle.text.proofs.Pens.{penned_more}
use Rattle.text.proofs.pen.Pen.pair.Goals as goal

pub returns : goal.returns
unfolding ascii pair_head
returns c = penned_more (penned_more (penned_more (penned_more (penned_more c.number.ensures c.labelled.ensures) c.labelled-2.ensures) c.labelled-3.ensures) c.labelled-4.ensures) c.letters.ensures
