-- `rows::join_rule` meets its contract: the nodes below i are worked, and `changed` says how the rows went. Assumes nothing.
use mathlib.Core.Path.{refl}
use native.Mathlib.Omega.{arith}
use Rattle.meaning.specs.Net.{PairRule}
use Rattle.rows.specs.Rounds.{none}
use Rattle.rows.proofs.Grows.{ready_grown}
use Rattle.rows.proofs.Works.{pair_rule, bases_there, rows_there, work_none, work_more, work_all}
use Rattle.rows.proofs.join_rule.Goals.{In-Pair}
use Rattle.rows.proofs.join_rule.Goals as goal

pub returns-in-Label : goal.returns-in-Label
returns-in-Label c = work_none _ c.in-Label.ensures

rule : (c : In-Pair) → PairRule c.args.lists.rules.now c.args.r c.in-Pair.head c.in-Pair.left c.in-Pair.right
rule c = pair_rule c.in-Pair.ensures c.requires.1

pub overflow_mul-a : goal.overflow_mul-a
overflow_mul-a c = omega (arith, (bases_there _ c.requires.0 (rule (goal.at.overflow_mul-a c).In-Pair)).0)

pub overflow_mul-b : goal.overflow_mul-b
overflow_mul-b c = omega (arith, (bases_there _ c.requires.0 (rule (goal.at.overflow_mul-b c).In-Pair)).1)

pub overflow_mul-c : goal.overflow_mul-c
overflow_mul-c c = omega (arith, (bases_there _ c.requires.0 (rule (goal.at.overflow_mul-c c).In-Pair)).2)

pub loop-i-init : goal.loop-i-init
loop-i-init c = record { grown = none; went = (refl, λ s h. absurd (omega arith)) }

pub overflow_add-a : goal.overflow_add-a
overflow_add-a c = omega (arith, (rows_there _ c.requires.0 (rule (goal.at.overflow_add-a c).In-Pair) c.loop-i-test.true).head)

pub overflow_add-b : goal.overflow_add-b
overflow_add-b c = omega (arith, (rows_there _ c.requires.0 (rule (goal.at.overflow_add-b c).In-Pair) c.loop-i-test.true).left)

pub join-changed-requires : goal.join-changed-requires
join-changed-requires c =
    rows_there _ (ready_grown c.requires.0 c.loop-i.invariant.grown) (rule (goal.at.join-changed-requires c).In-Pair) c.loop-i-test.true

pub loop-i-preserved : goal.loop-i-preserved
loop-i-preserved c =
    work_more _ (rule (goal.at.loop-i-preserved c).In-Pair) _ _ c.loop-i-test.true c.loop-i.invariant c.join-changed.ensures

pub returns-after-loop-i : goal.returns-after-loop-i
returns-after-loop-i c = work_all _ (rule (goal.at.returns-after-loop-i c).In-Pair) _ (omega arith) c.loop-i.invariant
