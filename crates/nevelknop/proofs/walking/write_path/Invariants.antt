-- `nevelknop::walking::write_path` meets its contract: each turn writes one window more. Assumes nothing.
use Prim.Native.Nat.{◌*◌}
use Rattle.nevelknop.specs.Inner.{net_of_path}
use Rattle.nevelknop.proofs.Windows.{PartPacked}
use Rattle.nevelknop.proofs.walking.write_path.Given as goal

abbrev pub invariant-loop-w : goal.invariant-loop-w
invariant-loop-w l =
    PartPacked (net_of_path l.found.held) l.found.held.table.now l.found.spot.a l.found.spot.i l.found.spot.j l.initial.path l.path (l.w * 16384)
