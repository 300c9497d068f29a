-- `text::pairs::line` meets its contract. Assumes nothing.
use Rattle.text.specs.Text.{ascii}
use Rattle.text.proofs.Lined.{line_penned}
use Rattle.text.proofs.pairs.line.Goals as goal

pub returns : goal.returns
unfolding ascii
returns c = line_penned c.args.query c.split-parts.ensures c.key.ensures c.length.ensures (rw (c.from.ensures, c.from-2.ensures, c.from-3.ensures) at c.pair.ensures) c.tail.ensures c.letters.ensures
