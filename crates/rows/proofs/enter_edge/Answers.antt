-- `rows::enter_edge` meets its contract: a shift, an or and a store, where the label fits. Assumes nothing.
use mathlib.Core.Path.{sym, ap}
use native.Mathlib.Omega.{arith}
use Rattle.meaning.specs.Net.{word}
use Rattle.meaning.specs.declared.EdgeWords.{EdgeWords}
use Rattle.rows.proofs.Enters.{entered_not, entered_set}
use Rattle.rows.proofs.enter_edge.Goals as goal

pub returns-else-edges-e : goal.returns-else-edges-e
unfolding word
returns-else-edges-e c = sym (entered_not _ _ _ _ _ c.if-edges-e.false)

pub returns-then-edges-e : goal.returns-then-edges-e
unfolding word
returns-then-edges-e c =
    let e = c.at-edge.ensures in
    entered_set _ _ _ _ _ _ _ c.if-edges-e.true (ap (λ (z : EdgeWords). z.from) e) (ap (λ (z : EdgeWords). z.to) e)
    (omega (arith, ap (λ (z : EdgeWords). z.to) e))
