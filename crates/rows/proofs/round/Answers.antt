-- `rows::round` meets its contract: the rules below r are worked, and `changing` says how the rows went. Assumes nothing.
use native.Mathlib.Omega.{arith}
use Rattle.rows.proofs.Works.{round_more, round_all}
use Rattle.rows.proofs.round.Goals as goal

pub loop-r-preserved : goal.loop-r-preserved
loop-r-preserved c = round_more _ _ _ _ c.loop-r.invariant c.join_rule-changing.ensures

pub returns : goal.returns
returns c = round_all _ _ (omega arith) c.loop-r.invariant
