-- `closure::run` meets its promise. Assumes nothing.
use mathlib.Core.Path.{◌≡◌, sym, ap, ◌∙◌}
use Prim.Native.Nat.{◌≤◌}
use native.Mathlib.Omega.{arith}
use lib.ListN.{length, replicate}
use Rattle.std.proofs.Common.{length-take-le}
use Rattle.key.specs.Keys.{EMPTY}
use Rattle.words.specs.Refusals.{Good}
use Rattle.words.specs.Tab.{over}
use Rattle.words.proofs.Refusals.{and_next}
use Rattle.meaning.specs.Final.{FinalTable}
use Rattle.numbers.specs.Numbers.{cells_of}
use Rattle.lists.specs.Lists.{net}
use Rattle.start.specs.Calls.{Started}
use Rattle.start.proofs.Entered.{cleared_all}
use Rattle.start.proofs.Filling.{filled}
use Rattle.closure.specs.Runs.{run_check}
use Rattle.closure.proofs.Fills.{over_same, over_front}
use Rattle.closure.proofs.Closing.{RunReady, ready, rules_right, start_low, settled_final, settled_high, final_linked, finished_lengths}
use Rattle.closure.proofs.run.Goals.{After-begin, In_default, In_ok-room-2}
use Rattle.closure.proofs.run.Goals as goal

-- the lists and both lengths are accepted
good : (c : In_ok-room-2) → let a = c.args in run_check a.numbers a.rules.now a.edges.now (length a.table.now) (length a.lengths.now) ≡ Good
unfolding run_check
good c =
    let n = c.cells-n.ensures in
    and_next (sym c.in_ok-check.ensures) ∙ (and_next (sym (rw n at c.in_ok-room.ensures)) ∙ sym (rw n at c.in_ok-room-2.ensures))

is_ready : (c : In_ok-room-2) → let a = c.args in RunReady a.numbers a.rules.now a.edges.now a.table.now a.lengths.now
is_ready c = ready _ _ _ _ _ (good c)

-- the start, then the passes
is_started : (c : After-begin) → let a = c.args in Started (net a.numbers a.rules.now a.edges.now) a.table.now c.begin.new.table
is_started c = let r = is_ready (goal.at.After-begin c).In_ok-room-2 in rw c.begin.ensures (filled _ _ _ r.lists _ r.table)

is_final : (c : In_default) → let a = c.args in FinalTable (net a.numbers a.rules.now a.edges.now) c.settle.new.table
is_final c =
    let a = c.args in
    settled_final a.numbers a.rules.now a.edges.now (is_ready (goal.at.In_default c).In_ok-room-2).lists _ (is_started (goal.at.In_default c).After-begin).start _ (rw c.in_default.is at c.settle.ensures)

pub invariant_of-grammar : goal.invariant_of-grammar
invariant_of-grammar c = record { inside = rules_right _ _ _ (is_ready (goal.at.invariant_of-grammar c).In_ok-room-2).lists }

pub settle-requires : goal.settle-requires
settle-requires c =
    start_low _ _ _ (is_ready (goal.at.settle-requires c).In_ok-room-2).lists _ (is_started (goal.at.settle-requires c).After-begin).start

pub slice_bounds-fill-end : goal.slice_bounds-fill-end
slice_bounds-fill-end c = omega (arith, c.cells-n.ensures, (is_ready (goal.at.slice_bounds-fill-end c).In_ok-room-2).lengths)

pub slice_bounds-fill-end-in-Err : goal.slice_bounds-fill-end-in-Err
slice_bounds-fill-end-in-Err c =
    let h : c.cells-n.result ≤ length c.args.lengths.now =
    omega (arith, c.cells-n.ensures, (is_ready (goal.at.slice_bounds-fill-end-in-Err c).In_ok-room-2).lengths) in
    sym (length-take-le c.cells-n.result c.args.lengths.now h)

pub returns-in-Err : goal.returns-in-Err
returns-in-Err c =
    let a = c.args in
    let r = is_ready (goal.at.returns-in-Err c).In_ok-room-2 in
    let started = is_started (goal.at.returns-in-Err c).After-begin in
    let n = c.cells-n.result in
    let e : n ≡ cells_of a.numbers = c.cells-n.ensures in
    let h : n ≤ length a.lengths.now = omega (arith, r.lengths) in
    let k : n ≤ length c.settle.new.table = omega (arith, r.table, c.settle.auto.table, c.begin.auto.table) in
    let f = rw (length-take-le n a.lengths.now h) at (c.fill.ensures.after (λ y e. e)) in
    let s = c.in-Err.ensures in
    rw (good (goal.at.returns-in-Err c).In_ok-room-2)
    (record {
      cell = _;
      refusal = s.ended.is;
      high = settled_high a.numbers a.rules.now a.edges.now r.lists _ started.start _ c.in-Err.refusal s;
      emptied = rw e at (c.clear.ensures ∙ cleared_all n c.settle.new.table k) ∙ over_same (cells_of a.numbers) EMPTY c.settle.new.table a.table.now (s.kept ∙ started.kept);
      zeroed = over_front n 0 a.lengths.now c.fill.new.self f ∙ ap (λ m. over (replicate m 0) a.lengths.now) e;
    })

pub invariant_of-still : goal.invariant_of-still
invariant_of-still c = record { linked = final_linked _ _ _ (is_ready (goal.at.invariant_of-still c).In_ok-room-2).lists _ (is_final c) }

pub fill_all-requires : goal.fill_all-requires
fill_all-requires c = (is_ready (goal.at.fill_all-requires c).In_ok-room-2).lengths

pub depth_of-requires : goal.depth_of-requires
depth_of-requires c =
    omega (arith, c.cells-n.ensures, (is_ready (goal.at.depth_of-requires c).In_ok-room-2).table, c.settle.auto.table, c.begin.auto.table)

pub returns : goal.returns
returns c =
    let f = c.fill_all.ensures in
    let a = c.args in
    let ready = (goal.at.returns c).In_ok-room-2 in
    let final = is_final (goal.at.returns c).In_default in
    rw (good ready)
    (record {
      final = final;
      lengths = finished_lengths a.numbers a.rules.now a.edges.now (is_ready ready).lists _ final _ _ f;
      deep = rw c.cells-n.ensures at c.depth_of.ensures;
      kept = c.settle.ensures.kept ∙ (is_started (goal.at.returns c).After-begin).kept;
      kept_lengths = f.kept;
    })
