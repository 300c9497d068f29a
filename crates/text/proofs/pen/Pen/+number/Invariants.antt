-- `text::pen::Pen::number` meets its contract: x's last digit behind the digits of x / 10. Assumes nothing.
use Rattle.text.proofs.pen.Pen.+number.Given as goal

abbrev pub decreases-number : goal.decreases-number
decreases-number l = l.x
