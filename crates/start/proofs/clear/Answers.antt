-- `start::clear` meets its contract: empty words, then the rest as it was. Assumes nothing.
use Rattle.std.proofs.Common.{◌≤◌, length, arith, length-take-le}
use Rattle.std.proofs.lemmas.List.{length-replicate}
use Rattle.words.specs.Tab.{over}
use Rattle.start.specs.Entering.{cleared}
use Rattle.start.proofs.clear.Goals as goal

pub returns : goal.returns
unfolding cleared over
returns c =
    let h : c.min-end.result ≤ length c.args.table.now = omega arith in
    rw (c.fill.ensures.after (λ y e. e), length-take-le, length-replicate, c.min-end.ensures)
