-- `text::pairs::pairs` meets its contract: the lines of the cells before (i, j) are written. Assumes nothing.
use mathlib.Core.Path.{◌≡◌, sym, ap, ◌∙◌}
use Prim.Native.Nat.{◌*◌}
use native.Mathlib.Omega.{arith}
use borrow.Author.Tests.{eqb-true, eqb-false}
use Rattle.text.specs.Queried.{checked_numbers}
use Rattle.text.proofs.Lined.{lines_none, lines_at, lines_empty, lines_more, lines_more_few}
use Rattle.text.proofs.pairs.pairs.Goals.{else-not-is_empty, then-not-is_empty}
use Rattle.text.proofs.pairs.pairs.Goals as goal

pub loop-i-init : goal.loop-i-init
loop-i-init c = lines_at c.args.query (lines_none c.args.query _) (omega arith)

pub loop-j-init : goal.loop-j-init
loop-j-init c = lines_at c.args.query c.loop-i.invariant (omega arith)

pub overflow_add-pairs : goal.overflow_add-pairs
overflow_add-pairs c =
    let q = c.args.query in
    let few = lines_more_few q (rw c.nodes-n.ensures at c.loop-i-test.true) (rw c.nodes-n.ensures at c.loop-j-test.true) c.loop-j.invariant in
    omega (arith, few)

pub loop-j-preserved : goal.loop-j-preserved
loop-j-preserved c =
    let q = c.args.query in
    let v = c.loop-j.invariant in
    let key = c.key.ensures in
    let empty = c.is_empty.ensures in
    let below = rw c.nodes-n.ensures at c.loop-j-test.true in
    elim c.if-not-is_empty.branch [
      | then-not-is_empty w ↦
          let full = eqb-false _ _ (sym empty ∙ w.if-not-is_empty.true) in
          rw (w.pen-is, w.pairs-is) (lines_more q _ _ below v (omega (arith, full, key, c.key.type_inv)) w.line.ensures)
      | else-not-is_empty w ↦ rw (w.pen-is, w.pairs-is) (lines_empty q _ _ below v (sym key ∙ eqb-true _ _ (sym empty ∙ w.if-not-is_empty.false)))
    ]

pub loop-i-preserved : goal.loop-i-preserved
loop-i-preserved c = lines_at c.args.query c.loop-j.invariant (omega (arith, c.nodes-n.ensures))

pub returns : goal.returns
returns c =
    let n = (checked_numbers c.args.query.checked).nodes in
    let e : c.loop-i.i ≡ n = omega (arith, c.nodes-n.ensures) in
    lines_at c.args.query c.loop-i.invariant (ap (λ i. i * n) e)
