-- `rows::clear` meets its contract: zeros, then the rest as it was. Assumes nothing.
use Rattle.std.proofs.Common.{length-take-le}
use Rattle.std.proofs.lemmas.List.{length-replicate}
use Rattle.words.specs.Tab.{over}
use Rattle.rows.proofs.clear.Goals as goal

pub returns : goal.returns
unfolding over
returns c =
    let h = c.requires in
    rw (c.fill.ensures.after (λ y e. e), length-take-le, length-replicate)
