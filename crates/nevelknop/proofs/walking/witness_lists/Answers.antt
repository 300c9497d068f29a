-- `nevelknop::walking::witness_lists` meets its contract: what a window is refused for, or the path. Assumes nothing.
use Rattle.words.proofs.Refusals.{handed_on}
use Rattle.nevelknop.proofs.Lent.{cells_front}
use Rattle.nevelknop.proofs.Told.{path_refused}
use Rattle.nevelknop.proofs.walking.witness_lists.Goals as goal

pub returns-in_err-found : goal.returns-in_err-found
returns-in_err-found c =
    let et = cells_front 8 c.args.table.now _ c.unpack_front-t.ensures in
    let el = cells_front 4 c.args.lengths.now _ c.unpack_front-l.ensures in
    rw (handed_on _ c.from_residual.ensures.1) (path_refused _ _ _ _ _ _ _ _ _ (rw (et, el) at c.in_err-found.ensures.err))

pub returns : goal.returns
returns c =
    let et = cells_front 8 c.args.table.now _ c.unpack_front-t.ensures in
    let el = cells_front 4 c.args.lengths.now _ c.unpack_front-l.ensures in
    let o = c.in_ok-found.ensures.ok in
    rw (o.0, o.1.0, o.1.1.0, o.1.1.1, et, el) at c.write_path.ensures
