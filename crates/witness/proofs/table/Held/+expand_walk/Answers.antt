-- `table::Held::walk` and `table::Held::expand` meet their contracts: the height falls from a cell to its sides. Assumes nothing.
use mathlib.Core.Path.{ap, ◌∙◌}
use Prim.Native.Nat.{◌-◌}
use native.Mathlib.Omega.{arith}
use Rattle.std.proofs.lemmas.Grind.{common_steps}
use Rattle.witness.proofs.Steps.{walk_before, walk_full, walk_leaf, walk_pair, walk_both}
use Rattle.witness.proofs.table.Held.+expand_walk.Goals as goal
use Rattle.witness.proofs.table.Held.+expand_walk.Goals.{walk-then-length-from-via-then-length-from, walk-then-length-from-via-else-length-from+then-is_empty}

pub expand-returns : goal.expand-returns
expand-returns t c =
    walk_both _ c.requires.left c.requires.right (c.saturating_sub-rest.ensures ∙ ap (λ n. c.args.from - n) c.length.ensures) c.walk-w.ensures c.walk-v.ensures
    (grind (arith, common_steps))

pub walk-returns-then-length-from : goal.walk-returns-then-length-from
walk-returns-then-length-from t c = elim c.then-length-from.branch [
  | walk-then-length-from-via-then-length-from w ↦ walk_before _ c.requires _ _ (omega (arith, c.length.ensures))
  | walk-then-length-from-via-else-length-from+then-is_empty w ↦ walk_full _ c.requires _ _ (grind (arith, common_steps))
]

pub walk-returns-in-Label : goal.walk-returns-in-Label
walk-returns-in-Label t c = walk_leaf _ c.requires (rw c.key.ensures at c.split-key.ensures) c.in-Label.ensures (omega (arith, c.length.ensures)) (grind (arith, common_steps)) c.write_edge.ensures

pub walk-returns-in-Pair : goal.walk-returns-in-Pair
walk-returns-in-Pair t c = walk_pair _ c.requires (rw c.key.ensures at c.split-key.ensures) c.in-Pair.ensures (rw (c.left-x.ensures, c.right-y.ensures) at c.expand.ensures)
