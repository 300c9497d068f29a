-- `nevelknop::walking::write_path` meets its contract: each turn writes one window more. Assumes nothing.
use mathlib.Core.Path.{sym, ◌∙◌}
use Prim.Native.Nat.{◌+◌, ◌*◌, ◌≤◌}
use native.Mathlib.Omega.{arith}
use Rattle.std.proofs.lemmas.Grind.{div_ceil_times}
use Rattle.words.proofs.Refusals.{handed_on}
use Rattle.nevelknop.proofs.Told.{room_refused, path_told, room_bytes}
use Rattle.nevelknop.proofs.Windows.{packed_none, packed_more, packed_all, path_long}
use Rattle.nevelknop.proofs.walking.write_path.Goals as goal

pub returns-in_err-room : goal.returns-in_err-room
returns-in_err-room c =
    rw (handed_on _ c.from_residual.ensures.1)
    (room_refused _ _ _ _ _ _ _ _ _ c.args.found.given c.length-many.ensures (sym c.room.ensures ∙ c.in_err-room.was))

pub loop-w-init : goal.loop-w-init
loop-w-init c = packed_none c.args.path.now

pub write_window-requires : goal.write_window-requires
write_window-requires c =
    omega (arith, room_bytes _ _ (sym c.room.ensures ∙ c.in_ok-room.was), div_ceil_times c.length-many.result 16384 (omega arith), c.loop-w.invariant.same)

pub loop-w-preserved : goal.loop-w-preserved
loop-w-preserved c =
    let w = c.loop-w.w in
    let before : w * 16384 ≤ c.length-many.result = omega (arith, div_ceil_times c.length-many.result 16384 (omega arith)) in
    packed_more (path_long _ _ _ _ _ _ _ _ c.args.found.given c.length-many.ensures) c.loop-w.invariant ((w + 1) * 16384)
    (room_bytes _ _ (sym c.room.ensures ∙ c.in_ok-room.was)) before (omega arith) c.write_window.auto.path c.write_window.ensures

pub returns : goal.returns
returns c =
    path_told _ _ _ _ _ _ _ _ _ c.args.found.given c.length-many.ensures (sym c.room.ensures ∙ c.in_ok-room.was)
    (packed_all (path_long _ _ _ _ _ _ _ _ c.args.found.given c.length-many.ensures) c.loop-w.invariant
    (omega (arith, div_ceil_times c.length-many.result 16384 (omega arith))))
