-- `nevelknop::running::run_lists` meets its contract: the words go into the arrays, and all of them back. Assumes nothing.
use mathlib.Core.Path.{ap, ◌∙◌}
use lib.ListN.{length}
use Rattle.nevelknop.proofs.Lent.{cells_front, packs_cells}
use Rattle.nevelknop.proofs.running.run_lists.Goals as goal

pub returns : goal.returns
returns c =
    let a = c.args in
    let et = cells_front 8 a.table.now _ c.unpack_front-t.ensures in
    let el = cells_front 4 a.lengths.now _ c.unpack_front-l.ensures in
    let k = c.run-answer.auto in
    record {
      t' = c.run-answer.new.table;
      ls' = c.run-answer.new.lengths;
      run = rw (et, el) at c.run-answer.ensures;
      packed_table = c.pack.ensures ∙ packs_cells 8 _ a.table.now (k.table ∙ ap length et);
      packed_lengths = c.pack-2.ensures ∙ packs_cells 4 _ a.lengths.now (k.lengths ∙ ap length el);
    }
