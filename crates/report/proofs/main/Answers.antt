-- `report::main` meets its contract: what the report wrote lies within its room. Assumes nothing.
use mathlib.Core.Path.{◌≡◌, sym}
use mathlib.Core.List.{List}
use Prim.Native.Nat.{ℕ, ◌≤◌}
use native.Mathlib.Omega.{arith}
use lib.ListN.{length, length-append}
use lib.Seq.{length-take-le}
use Rattle.std.specs.Prelude.{Option, Some}
use Rattle.words.specs.Tab.{over}
use Rattle.text.specs.Report.{ReportIs}
use Rattle.report.proofs.main.Goals as goal

within : (d entry exit : List ℕ) {r : Option ℕ} {n : ℕ} → r ≡ Some n → ReportIs d entry exit r → n ≤ length exit
unfolding over
within d entry exit e is = let w = (rw e at is).1 in rw (w.text, w.count, length-append) (omega arith)

pub slice_bounds-text-end : goal.slice_bounds-text-end
slice_bounds-text-end c = within _ _ _ c.in-Some.is c.report.ensures

pub slice_bounds-write_all-end : goal.slice_bounds-write_all-end
slice_bounds-write_all-end c = sym (length-take-le _ _ (within _ _ _ c.in-Some.is c.report.ensures))
