-- `edges::find_edge` meets its contract: none below the position fits. Assumes nothing.
use mathlib.Core.Path.{◌≡◌}
use mathlib.Core.Bool.{false}
use Prim.Native.Nat.{ℕ, ◌<◌}
use Rattle.std.specs.Prelude.{None}
use Rattle.meaning.specs.Computed.{is_edge}
use Rattle.witness.proofs.edges.find_edge.Given as goal

abbrev pub invariant-loop-e : goal.invariant-loop-e
invariant-loop-e l = record {
  none : l.found ≡ None;
  before : (k : ℕ) → k < l.e → is_edge l.edges l.sought.from l.sought.label l.sought.to k ≡ false;
}
