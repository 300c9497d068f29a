-- `report::room` meets its contract. Assumes nothing.
use mathlib.Core.Path.{sym}
use Prim.Native.Nat.{ℕ}
use lib.ListN.{length-replicate}
use Rattle.report.proofs.room.Goals as goal

pub returns : goal.returns
returns c = sym (length-replicate {0} {A = ℕ} 1650000 0)
