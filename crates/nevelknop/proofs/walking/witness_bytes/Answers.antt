-- `nevelknop::walking::witness_bytes` meets its contract: the first refusal of the counts or the lists, or the witness. Assumes nothing.
use mathlib.Core.Path.{sym, ◌∙◌}
use Rattle.words.proofs.Refusals.{handed_on}
use Rattle.nevelknop.proofs.Orders.{counts_bad}
use Rattle.nevelknop.proofs.Told.{witness_refused, witness_told}
use Rattle.nevelknop.proofs.walking.witness_bytes.Goals as goal

pub returns-in_err-counts_check : goal.returns-in_err-counts_check
returns-in_err-counts_check c =
    let a = c.args in
    rw (handed_on _ c.from_residual.ensures.1)
    (witness_refused a.given.numbers a.given.rules.now a.given.edges.now _ _ _ _ _ _
    (counts_bad a.given.numbers a.given.rules.now a.given.edges.now (sym c.counts_check.ensures ∙ c.in_err-counts_check.was)))

pub returns-in_err-lists : goal.returns-in_err-lists
returns-in_err-lists c =
    let a = c.args in
    rw (handed_on _ c.from_residual-in_err-lists.ensures.1) (witness_refused a.given.numbers a.given.rules.now a.given.edges.now _ _ _ _ _ _ c.in_err-lists.ensures.err)

pub returns : goal.returns
returns c =
    let a = c.args in
    let l = c.in_ok-lists.ensures.ok in
    witness_told a.given.numbers a.given.rules.now a.given.edges.now l.1.1.1 _ _ _ _ _ _ (rw (l.0, l.1.0, l.1.1.0) at c.witness_lists.ensures)
