-- `text::pen::Pen::number` meets its contract: x's last digit behind the digits of x / 10. Assumes nothing.
use Rattle.text.proofs.Pens.{penned_more}
use Rattle.text.proofs.Decimals.{decimal_one, decimal_more}
use Rattle.text.proofs.pen.Pen.+number.Goals.{then-x-ge10, else-x-ge10}
use Rattle.text.proofs.pen.Pen.+number.Goals as goal

pub returns : goal.returns
returns t c =
    elim c.if-x-ge10.branch [
      | then-x-ge10 w ↦ rw (decimal_more c.args.x w.if-x-ge10.true c.ranges.x.fits) (penned_more w.number.ensures (rw w.self-is at c.byte.ensures))
      | else-x-ge10 w ↦ rw (decimal_one c.args.x w.if-x-ge10.false) (rw w.self-is at c.byte.ensures)
    ]
