-- `text::closed` meets its contract: the run refuses nothing, and the table check accepts what it leaves. Assumes nothing.
use mathlib.Core.Path.{refl}
use Rattle.closure.specs.Runs.{Completed}
use Rattle.text.specs.Report.{net_in}
use Rattle.text.proofs.Runs.{run_good, run_never, run_accepted, run_query}
use Rattle.text.proofs.closed.Goals.{In_ok-depth}
use Rattle.text.proofs.closed.Goals as goal

pub returns-in_err-depth : goal.returns-in_err-depth
returns-in_err-depth c =
    let p = c.requires in
    absurd (run_never p.small p.exact (rw (p.numbers, run_good p.small p.exact, c.in_err-depth.was) at c.run.ensures))

-- what the run has left
left : (c : In_ok-depth) → Completed (net_in c.args.header c.args.lists.rules.now c.args.lists.edges.now) c.args.table.now c.args.lengths.now c.run.new.table c.run.new.lengths c.in_ok-depth.depth
left c =
    let p = c.requires in
    rw (p.numbers, run_good p.small p.exact, c.in_ok-depth.was) at c.run.ensures

pub invariant_of-checked : goal.invariant_of-checked
invariant_of-checked c =
    let p = c.requires in
    record { right = rw p.numbers (run_accepted p.small p.exact (left (goal.at.invariant_of-checked c).In_ok-depth)) }

pub whole-requires-clause-query_of : goal.whole-requires-clause-query_of
whole-requires-clause-query_of c =
    let p = c.requires in
    run_query p.small p.exact (left (goal.at.whole-requires-clause-query_of c).In_ok-depth) _ refl p.numbers refl refl refl refl

pub whole-requires-clause-depth_value : goal.whole-requires-clause-depth_value
whole-requires-clause-depth_value c = (left (goal.at.whole-requires-clause-depth_value c).In_ok-depth).deep
