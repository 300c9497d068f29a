-- `rows::rows` meets its contract: what a check refuses leaves the rows, and after the last one they are made. Assumes nothing.
use mathlib.Core.Path.{◌≡◌, sym}
use native.Mathlib.Omega.{arith}
use Rattle.words.proofs.Refusals.{refusing, handed_on, and_stop}
use Rattle.words.specs.Refusals.{Good}
use Rattle.numbers.proofs.Right.{room_good}
use Rattle.lists.specs.Lists.{lists_check}
use Rattle.rows.specs.Calls.{rows_check}
use Rattle.rows.proofs.Accepts.{rows_few, rows_refused, rows_done}
use Rattle.rows.proofs.rows.Goals.{In_ok-lists}
use Rattle.rows.proofs.rows.Goals as goal

-- the lists are accepted here
passed : (c : In_ok-lists) → let a = c.args in lists_check a.numbers a.rules.now a.edges.now ≡ Good
passed c = let n = c.in_ok-lists.ensures.ok in rw (← n.0, ← n.1.0, ← n.1.1) c.in_ok-lists.lists.passed

pub returns-in_err-lists : goal.returns-in_err-lists
unfolding rows_check
returns-in_err-lists c = rows_refused _ _ _ _ _ (handed_on _ c.from_residual.ensures.1) (and_stop _ c.in_err-lists.ensures.err)

pub overflow_mul-numbers : goal.overflow_mul-numbers
overflow_mul-numbers c = omega (arith, rows_few _ _ _ (passed (goal.at.overflow_mul-numbers c).In_ok-lists))

pub returns-in_err-room : goal.returns-in_err-room
unfolding rows_check
returns-in_err-room c =
    let p = passed (goal.at.returns-in_err-room c).In_ok-lists in
    rows_refused _ _ _ _ _ (handed_on _ c.from_residual-in_err-room.ensures.1) (grind (arith, refusing, p))

pub make-requires : goal.make-requires
make-requires c =
    let n = c.in_ok-lists.ensures.ok in
    let h = (room_good 5 _ _).0 (sym c.in_ok-room.ensures) in
    rw n.0 h

pub returns : goal.returns
unfolding rows_check
returns c =
    let n = c.in_ok-lists.ensures.ok in
    let p = passed (goal.at.returns c).In_ok-lists in
    rows_done _ _ _ _ (rw (n.0, n.1.0, n.1.1) at c.make.ensures) (grind (arith, refusing, p))
