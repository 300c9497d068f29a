-- `rows::enter_rule` meets its contract: the edges below e are entered. Assumes nothing.
use Prim.Native.Nat.{◌*◌}
use native.Mathlib.Omega.{arith}
use native.Mathlib.Nat.{mul-le-mul_right, le_of_lt}
use Rattle.meaning.specs.Net.{LabelRule}
use Rattle.rows.specs.Rounds.{none, EdgeFits}
use Rattle.rows.proofs.Grows.{grown_length}
use Rattle.rows.proofs.Accepts.{lists_sane}
use Rattle.rows.proofs.Enters.{label_rule, edge_there, enter_none, edge_more}
use Rattle.rows.proofs.enter_rule.Goals.{In-Label, In-loop-e}
use Rattle.rows.proofs.enter_rule.Goals as goal

pub returns-in_default : goal.returns-in_default
returns-in_default c = enter_none _ _ _ _ c.in_default.ensures

rule : (c : In-Label) → LabelRule c.args.lists.rules.now c.args.r c.in-Label.head c.in-Label.label
rule c = label_rule c.in-Label.ensures c.requires.rule

pub overflow_mul-base : goal.overflow_mul-base
overflow_mul-base c =
    let l = c.args.lists in
    omega (arith, mul-le-mul_right l.numbers.nodes (le_of_lt ((lists_sane l).leaves _ _ _ (rule (goal.at.overflow_mul-base c).In-Label)).head))

pub loop-e-init : goal.loop-e-init
loop-e-init c = record { grown = none; leaves = λ f h. absurd (omega arith) }

fits : (c : In-loop-e) → EdgeFits c.args.lists.edges.now c.loop-e.e (c.in-Label.head * c.args.lists.numbers.nodes) c.loop-e.rows
fits c =
    edge_there c.args.lists.numbers c.loop-e.rows (lists_sane c.args.lists) (omega (arith, c.requires.nodes_in_bounds, grown_length c.loop-e.invariant.grown))
    (rule (goal.at.In-loop-e c).In-Label) c.loop-e-test.true

pub enter_edge-requires : goal.enter_edge-requires
enter_edge-requires c = fits (goal.at.enter_edge-requires c).In-loop-e

pub loop-e-preserved : goal.loop-e-preserved
loop-e-preserved c =
    rw c.enter_edge.ensures
    (edge_more _ _ _ _ (rule (goal.at.loop-e-preserved c).In-Label) (fits (goal.at.loop-e-preserved c).In-loop-e) c.loop-e.invariant)
