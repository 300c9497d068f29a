-- `rows::enter` meets its contract: the rules below r are entered. Assumes nothing.
use Rattle.rows.proofs.Enters.{rule_more}
use Rattle.rows.proofs.enter.Goals as goal

pub loop-r-preserved : goal.loop-r-preserved
loop-r-preserved c = rule_more _ _ _ _ c.loop-r.invariant c.enter_rule.ensures
