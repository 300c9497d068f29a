-- `table::told` meets its contract: an accepted deck's lists lie within their room, and its numbers within their limits. Assumes nothing.
use mathlib.Core.Path.{sym}
use native.Mathlib.Omega.{arith}
use lib.ListN.{replicate}
use lib.Seq.{length-take-le}
use Rattle.lists.proofs.Right.{accepted}
use Rattle.deck.proofs.Leaves.{ReadIs, read_is}
use Rattle.table.proofs.told.Goals.{In_ok-h}
use Rattle.table.proofs.told.Goals as goal

-- what the reader has left
left : (c : In_ok-h) → ReadIs c.args.deck.now c.in_ok-h.h c.read.new.rules c.read.new.edges
left c =
    let r = c.read.ensures in
    read_is _ (replicate 768 0) (replicate 12288 0) r.value r.rules_after r.edges_after c.in_ok-h.was

pub overflow_mul-r : goal.overflow_mul-r
overflow_mul-r c = omega (arith, (left (goal.at.overflow_mul-r c).In_ok-h).rules_many)

pub overflow_mul-e : goal.overflow_mul-e
overflow_mul-e c = omega (arith, (left (goal.at.overflow_mul-e c).In_ok-h).edges_many)

pub slice_bounds-rules-end : goal.slice_bounds-rules-end
slice_bounds-rules-end c = (left (goal.at.slice_bounds-rules-end c).In_ok-h).rules_fit

pub slice_bounds-closed-end : goal.slice_bounds-closed-end
slice_bounds-closed-end c = sym (length-take-le _ _ (left (goal.at.slice_bounds-closed-end c).In_ok-h).rules_fit)

pub slice_bounds-edges-end : goal.slice_bounds-edges-end
slice_bounds-edges-end c = (left (goal.at.slice_bounds-edges-end c).In_ok-h).edges_fit

pub slice_bounds-closed-end-2 : goal.slice_bounds-closed-end-2
slice_bounds-closed-end-2 c = sym (length-take-le _ _ (left (goal.at.slice_bounds-closed-end-2 c).In_ok-h).edges_fit)

pub closed-requires : goal.closed-requires
closed-requires c =
    let l = accepted _ _ _ (left (goal.at.closed-requires c).In_ok-h).lists in
    rw c.numbers_in.ensures (record { nodes_bound = l.nodes.high; nonterminals_bound = l.nonterminals.high })
