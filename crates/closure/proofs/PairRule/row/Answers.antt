-- `closure::PairRule::row` meets its contract: the loop's invariant is that the first j steps were taken, and that the left side stays.
-- Assumes nothing.
use mathlib.Core.Path.{◌≡◌, refl}
use mathlib.Core.Bool.{◌||◌}
use Prim.Native.Nat.{◌+◌, ◌<◌}
use native.Mathlib.Omega.{arith}
use lib.ListN.{length}
use Rattle.std.proofs.Math.Bool.{or-true, or-false}
use Rattle.std.proofs.lemmas.Result.{err_from_is_err_and}
use Rattle.std.specs.declared.result.Result.TheVariants.{Ok}
use Rattle.meaning.specs.Steps.{right_of}
use Rattle.closure.specs.Passes.{ask}
use Rattle.closure.proofs.Swept.{cell_next, swept_none, Cells, cells_in, row_more, row_stop}
use Rattle.closure.proofs.PairRule.row.Goals.{In-loop-j, Joined-branch, then-branch, else-branch}
use Rattle.closure.proofs.PairRule.row.Goals as goal

-- the cells of the step at j
spot : (c : In-loop-j) →
    let a = c.args in
    Cells a.self.size (ask a.self a.i a.k c.loop-j.j)
spot c =
    let h = c.requires.i_lt_nodes in
    cells_in c.args.self.size c.args.self c.args.i c.args.k c.loop-j.j c.args.self.inside h.0 h.1 c.loop-j-test.true

to_in : (c : In-loop-j) → c.cell-to.result + c.loop-j.j < length c.loop-j.table
to_in c =
    let a = c.args in
    let j = c.loop-j.j in
    omega (arith, c.cell-to.ensures, cell_next a.self.size.nodes a.self.head a.i j, (spot c).target, c.loop-j.invariant.swept.low.long)

from_is : (c : In-loop-j) →
    let a = c.args in
    c.cell-from.result + c.loop-j.j ≡ right_of a.self.size.nodes (ask a.self a.i a.k c.loop-j.j)
from_is c =
    let a = c.args in
    omega (arith, c.cell-from.ensures, cell_next a.self.size.nodes a.self.right a.k c.loop-j.j)

pub loop-j-init : goal.loop-j-init
loop-j-init c = record { swept = swept_none c.args.self.size c.args.table.now c.requires.low; left = c.requires.k_value.0 }

pub overflow_add-to : goal.overflow_add-to
overflow_add-to c = omega (arith, to_in (goal.at.overflow_add-to c).In-loop-j)

pub overflow_add-from : goal.overflow_add-from
overflow_add-from c = let s = (goal.at.overflow_add-from c).In-loop-j in omega (arith, from_is s, (spot s).right, c.loop-j.invariant.swept.low.long)

pub join-requires : goal.join-requires
join-requires c =
    let h = c.requires.k_value in
    let low = c.loop-j.invariant.swept.low in
    let s = (goal.at.join-requires c).In-loop-j in
    let d = spot s in
    record {
      to_in_bounds = (to_in s, omega (arith, low.long, from_is s, d.right));
      left_bound = (h.1, rw h.0 at (c.requires.low.cell _ d.left (rw h.0 h.1)));
      from_bound = rw (from_is s) (low.cell _ d.right);
    }

pub returns-in_err-join : goal.returns-in_err-join
returns-in_err-join c =
    let l = c.loop-j in
    let a = c.args in
    let p = err_from_is_err_and c.from_residual.result c.from_residual.ensures.1 in
    rw (p.1, p.2)
    (row_stop a.self.size a.self a.i a.k l.j a.table.now l.table a.left.word _ _ (spot (goal.at.returns-in_err-join c).In-loop-j) c.cell-to.ensures
    c.cell-from.ensures c.requires.k_value.1 l.invariant.left _ l.moved _ c.loop-j-test.true l.invariant.swept c.in_err-join.ensures)

-- what the steps up to j found
moved_is : (c : Joined-branch) → c.if-branch.moved ≡ (c.loop-j.moved || c.in_ok-join.field-0)
moved_is c =
    (elim c.if-branch.branch [
      | then-branch w ↦ rw (w.moved-is, w.if-branch.true, or-true) refl
      | else-branch w ↦ rw (w.moved-is, w.if-branch.false, or-false) refl
    ])

pub loop-j-preserved : goal.loop-j-preserved
loop-j-preserved c =
    let l = c.loop-j in
    let a = c.args in
    let m =
    row_more a.self.size a.self a.i a.k l.j a.table.now l.table a.left.word _ _ (spot (goal.at.loop-j-preserved c).In-loop-j) c.cell-to.ensures
    c.cell-from.ensures c.requires.k_value.1 l.invariant.left c.join.new.table _ (Ok c.in_ok-join.field-0) l.invariant.swept c.in_ok-join.ensures in
    record { swept = rw (moved_is (goal.at.loop-j-preserved c).Joined-branch) m.0; left = m.1 }
