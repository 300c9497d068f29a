-- `nevelknop::walking::write_window` meets its contract: the window, packed behind the edges before it. Assumes nothing.
use Rattle.nevelknop.proofs.Windows.{answer_front, one_window}
use Rattle.nevelknop.proofs.walking.write_window.Goals as goal

pub slice_bounds-pack-end : goal.slice_bounds-pack-end
slice_bounds-pack-end c = answer_front c.args.from 16384 c.window-count.ensures c.window-count.auto.path

pub returns : goal.returns
returns c = one_window _ _ _ _ _ _ _ _ c.args.from c.window-count.ensures c.pack.ensures
