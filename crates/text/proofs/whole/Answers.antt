-- `text::whole` meets its contract. Assumes nothing.
use Rattle.text.proofs.Reports.{whole_penned}
use Rattle.text.proofs.whole.Goals as goal

pub returns : goal.returns
returns c =
    let p = c.requires in
    whole_penned p.query_of p.depth_value c.opening.ensures c.pairs-pairs.ensures (rw c.from.ensures at c.closing.ensures)
