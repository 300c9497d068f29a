-- `text::shown` meets its contract. Assumes nothing.
use mathlib.Core.Path.{refl, sym}
use Prim.Native.Nat.{ℕ}
use native.Mathlib.Omega.{arith}
use lib.ListN.{replicate, length-replicate}
use lib.Seq.{length-take-le}
use Rattle.words.proofs.Refusals.{handed_on}
use Rattle.deck.proofs.Leaves.{ReadIs, read_is}
use Rattle.text.proofs.Reports.{told_size, read_refused, read_large, read_small, read_shown}
use Rattle.text.proofs.shown.Goals.{In_ok-header}
use Rattle.text.proofs.shown.Goals as goal

-- what the reader has left
left : (c : In_ok-header) → ReadIs c.args.deck.now c.in_ok-header.header c.read.new.rules c.read.new.edges
left c =
    let r = c.read.ensures in
    read_is _ (replicate 768 0) (replicate 12288 0) r.value r.rules_after r.edges_after c.in_ok-header.was

pub returns-in_err-header : goal.returns-in_err-header
returns-in_err-header c =
    let rules = length-replicate {A = ℕ} 768 0 in
    let edges = length-replicate {A = ℕ} 12288 0 in
    let e = read_refused c.args.deck.now (replicate 768 0) (replicate 12288 0) rules edges c.read.ensures.value c.in_err-header.was in
    rw (handed_on _ c.from_residual.ensures.1) (e, refl)

pub returns-in_err-large : goal.returns-in_err-large
returns-in_err-large c =
    let s = left (goal.at.returns-in_err-large c).In_ok-header in
    let e = told_size c.in_ok-header.header c.numbers_in-numbers.ensures c.large.ensures c.in_err-large.was in
    rw (handed_on _ c.from_residual-in_err-large.ensures.1) (rw (read_large _ s) e, refl)

pub overflow_mul-m : goal.overflow_mul-m
overflow_mul-m c = omega (arith, (left (goal.at.overflow_mul-m c).In_ok-header).rules_many)

pub overflow_mul-n : goal.overflow_mul-n
overflow_mul-n c = omega (arith, (left (goal.at.overflow_mul-n c).In_ok-header).edges_many)

pub slice_bounds-rules-end : goal.slice_bounds-rules-end
slice_bounds-rules-end c = (left (goal.at.slice_bounds-rules-end c).In_ok-header).rules_fit

pub slice_bounds-lists-end : goal.slice_bounds-lists-end
slice_bounds-lists-end c = sym (length-take-le _ _ (left (goal.at.slice_bounds-lists-end c).In_ok-header).rules_fit)

pub slice_bounds-edges-end : goal.slice_bounds-edges-end
slice_bounds-edges-end c = (left (goal.at.slice_bounds-edges-end c).In_ok-header).edges_fit

pub slice_bounds-lists-end-2 : goal.slice_bounds-lists-end-2
slice_bounds-lists-end-2 c = sym (length-take-le _ _ (left (goal.at.slice_bounds-lists-end-2 c).In_ok-header).edges_fit)

pub invariant_of-lists : goal.invariant_of-lists
invariant_of-lists c =
    let s = left (goal.at.invariant_of-lists c).In_ok-header in
    record { passed = rw (c.numbers_in-numbers.ensures, s.rules_are, s.edges_are) s.lists }

pub accepted-requires : goal.accepted-requires
accepted-requires c =
    let e = told_size c.in_ok-header.header c.numbers_in-numbers.ensures c.large.ensures c.in_ok-large.was in
    record { numbers = c.numbers_in-numbers.ensures; small = read_small _ (left (goal.at.accepted-requires c).In_ok-header) e }

pub returns : goal.returns
returns c =
    let e = told_size c.in_ok-header.header c.numbers_in-numbers.ensures c.large.ensures c.in_ok-large.was in
    read_shown _ (left (goal.at.returns c).In_ok-header) _ _ _ e c.accepted.ensures
