-- `words::scan` meets its contract. Assumes nothing.
use mathlib.Core.Path.{refl, sym, ap, ◌∙◌}
use native.Mathlib.Omega.{arith}
use Rattle.words.proofs.Refusals.{handed_on, scan_bad, scan_more}
use Rattle.words.specs.Refusals.{scan}
use Rattle.words.proofs.scan.Goals as goal

pub loop-k-init : goal.loop-k-init
unfolding scan
loop-k-init g c k is = refl

pub loop-k-preserved : goal.loop-k-preserved
loop-k-preserved g c k is =
    scan_more _ _ (c.loop-k.invariant k is) (sym (is _ _ c.loop-k-test.true c.check.ensures) ∙ c.in_ok-check.was)

pub returns-in_err-check : goal.returns-in_err-check
returns-in_err-check g c k is =
    handed_on _ c.from_residual.ensures.1
    ∙ sym (scan_bad k _ _ c.loop-k-test.true (c.loop-k.invariant k is) (sym (is _ _ c.loop-k-test.true c.check.ensures) ∙ c.in_err-check.was))

pub returns : goal.returns
returns g c k is = sym (c.loop-k.invariant k is) ∙ ap (scan k) (omega arith)
