-- `rows::make` meets its contract: zeroed, entered and closed. Assumes nothing.
use Rattle.rows.proofs.Accepts.{lists_sane}
use Rattle.rows.proofs.Closure.{rows_made}
use Rattle.rows.proofs.make.Goals as goal

pub returns : goal.returns
returns c =
    let p = c.requires in
    let s = lists_sane c.args.lists in
    rows_made c.args.lists.numbers s _ (rw c.clear.ensures at c.enter.ensures) c.close.ensures p
