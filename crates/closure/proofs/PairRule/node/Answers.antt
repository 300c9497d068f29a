-- `closure::PairRule::node` meets its contract: the loop's invariant is that the steps with a middle below k were taken. Assumes nothing.
use mathlib.Core.Path.{◌≡◌, sym, ap}
use Prim.Native.Nat.{ℕ, ◌+◌, ◌<◌}
use native.Mathlib.Omega.{arith}
use lib.ListN.{length, get_or}
use Rattle.std.proofs.lemmas.Result.{err_from_is_err_and}
use Rattle.meaning.specs.Table.{cell}
use Rattle.closure.specs.Passes.{row_steps}
use Rattle.closure.proofs.Swept.{cell_next, swept_next, swept_skip, swept_stop, cells_in, row_idle}
use Rattle.closure.proofs.PairRule.node.Goals.{In-loop-k, then-not-is_empty+in_ok-moved, else-not-is_empty}
use Rattle.closure.proofs.PairRule.node.Goals as goal

-- the left side at k
left_is : (c : In-loop-k) →
    let a = c.args in
    let k = c.loop-k.k in
    c.cell-base.result + k ≡ cell a.self.size.nodes a.self.left a.i k
left_is c =
    let a = c.args in
    omega (arith, c.cell-base.ensures, cell_next a.self.size.nodes a.self.left a.i c.loop-k.k)

left_in : (c : In-loop-k) → c.cell-base.result + c.loop-k.k < length c.loop-k.table
left_in c =
    let l = c.loop-k in
    omega (arith, left_is c, l.invariant.low.long, (cells_in c.args.self.size c.args.self c.args.i l.k l.k c.args.self.inside c.requires.i_lt_nodes c.loop-k-test.true c.loop-k-test.true).left)

pub overflow_add-left : goal.overflow_add-left
overflow_add-left c = omega (arith, left_in (goal.at.overflow_add-left c).In-loop-k)

pub offset_bounds-table-base : goal.offset_bounds-table-base
offset_bounds-table-base c = omega (arith, left_in (goal.at.offset_bounds-table-base c).In-loop-k)

pub bounds-table-base : goal.bounds-table-base
bounds-table-base c = left_in (goal.at.bounds-table-base c).In-loop-k

pub row-requires : goal.row-requires
row-requires c =
    let l = c.loop-k in
    let e = left_is (goal.at.row-requires c).In-loop-k in
    record {
      low = l.invariant.low;
      i_lt_nodes = (c.requires.i_lt_nodes, c.loop-k-test.true);
      k_value = (sym (ap (λ x. get_or l.table x 0) e), grind arith);
    }

pub returns-in_err-moved : goal.returns-in_err-moved
returns-in_err-moved c =
    let l = c.loop-k in
    let a = c.args in
    let p = err_from_is_err_and c.from_residual.result c.from_residual.ensures.1 in
    rw (p.1, p.2)
    (swept_stop a.self.size (λ k. row_steps a.self a.i k a.self.size.nodes) l.k a.self.size.nodes a.table.now l.table _ l.moved _ c.loop-k-test.true l.invariant c.in_err-moved.ensures)

pub loop-k-preserved : goal.loop-k-preserved
loop-k-preserved c =
    let l = c.loop-k in
    let a = c.args in
    let f = λ (k : ℕ). row_steps a.self a.i k a.self.size.nodes in
    (elim c.if-not-is_empty.branch [
      | then-not-is_empty+in_ok-moved w ↦ rw (w.table-is, w.moved-is) (swept_next a.self.size f l.k a.table.now l.table _ _ _ l.invariant w.in_ok-moved.ensures)
      | else-not-is_empty w ↦ rw (w.table-is, w.moved-is)
          (swept_skip a.self.size f l.k a.table.now l.table l.moved l.invariant
          (row_idle a.self.size a.self a.i l.k a.self.size.nodes l.table l.invariant.low (λ x. grind arith)
          (rw (← (left_is (goal.at.loop-k-preserved c).In-loop-k)) (grind (arith, w.if-not-is_empty.ensures)))))
    ])
