-- `text::query::Query::cell` meets its contract. Assumes nothing.
use native.Mathlib.Omega.{arith}
use Rattle.lists.proofs.Right.{accepted}
use Rattle.text.proofs.query.Query.cell.Goals as goal

pub overflow_cast-self : goal.overflow_cast-self
overflow_cast-self c =
    let q = c.args.self in
    let l = q.checked.held.lists in
    record { fits = omega (arith, q.in_range, (accepted l.numbers l.rules.now l.edges.now l.passed).nonterminals.high) }
