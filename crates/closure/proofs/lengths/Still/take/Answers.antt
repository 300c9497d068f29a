-- `closure::lengths::Still::take` meets its contract. Assumes nothing.
use Rattle.closure.proofs.Fills.{idle_unwanted, filled_idle, filled_one, filled_pair}
use Rattle.closure.proofs.lengths.Still.take.Goals as goal

pub returns-then-not-wanted : goal.returns-then-not-wanted
returns-then-not-wanted c = filled_idle _ _ _ _ c.args.c c.requires.known (idle_unwanted _ _ _ _ _ c.if-not-wanted.ensures)

pub returns-then-key-eq1 : goal.returns-then-key-eq1
returns-then-key-eq1 c =
    let w = c.if-not-wanted.ensures in
    filled_one _ _ _ _ c.args.c c.requires.known c.requires.c_bound w.1 w.0 (rw c.split-key.ensures at c.if-key-eq1.true) _

pub returns : goal.returns
returns c =
    let w = c.if-not-wanted.ensures in
    let s = c.sides-sides.ensures in
    filled_pair _ _ _ _ c.args.c _ _ _ c.requires.known c.requires.c_bound w.1 (record { filled = w.0; high = rw c.split-key.ensures at c.if-key-eq1.false })
    s.0 s.1 c.if-left-eq0.false c.if-right-eq0.false c.held_sum.ensures _
