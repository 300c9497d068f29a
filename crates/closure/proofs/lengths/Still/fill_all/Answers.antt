-- `closure::lengths::Still::fill_all` meets its contract: the number of words that are 0 falls with each sweep but the last. Assumes nothing.
use mathlib.Core.Path.{◌≡◌}
use Prim.Native.Nat.{◌≤◌}
use native.Mathlib.Omega.{arith}
use lib.ListN.{length}
use Rattle.std.proofs.Common.{length-take-le}
use Rattle.words.proofs.Tab.{drop-fill}
use Rattle.closure.specs.Sizes.{count}
use Rattle.closure.proofs.Fills.{known_none, over_front}
use Rattle.closure.proofs.lengths.Still.fill_all.Goals as goal

pub loop-init : goal.loop-init
loop-init c =
    let z = c.args.self.now.grammar.size in
    let ls = c.args.lengths.now in
    let e : c.cells.result ≡ count z = c.cells.ensures in
    let h : c.cells.result ≤ length ls = omega arith in
    let f = rw (length-take-le c.cells.result ls h) at (c.fill.ensures.after (λ y e. e)) in
    rw (over_front c.cells.result 0 ls c.fill.new.self f, e)
    (record { known = known_none z c.args.self.now.grammar.rules.now c.args.self.now.table.now ls c.requires; kept = drop-fill (count z) 0 ls })
