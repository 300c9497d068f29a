-- `deck::blocks::total` meets its contract. Assumes nothing.
use mathlib.Core.Path.{sym, ap, ◌∙◌}
use native.Mathlib.Omega.{arith}
use Rattle.deck.specs.declared.reader.Reader.{Reader}
use Rattle.deck.proofs.Readers.{counted_none, counted_used, counted_other, counted_all}
use Rattle.deck.proofs.blocks.total.Goals as goal

pub loop-block-init : goal.loop-block-init
loop-block-init c = let o = c.open-block-items.ensures in
    let e = c.into_iter-block-iterator.ensures.into_iter_gives in
    counted_none _ _ (ap (λ (r : Reader). r.deck.now) e ∙ o.deck) (ap (λ (r : Reader). r.next) e ∙ o.next)

pub loop-block-preserved-then-type_byte-from : goal.loop-block-preserved-then-type_byte-from
loop-block-preserved-then-type_byte-from c = let u = c.used-sum.ensures in
    counted_used _ _ c.loop-block.invariant c.in-Some.ensures.steps _ u.byte u.value (omega arith)

pub loop-block-preserved : goal.loop-block-preserved
loop-block-preserved c = counted_other _ _ c.loop-block.invariant c.in-Some.ensures.steps (λ e. c.if-type_byte-from.false (c.type_byte.ensures ∙ e ∙ sym c.from.ensures))

pub returns : goal.returns
returns c = counted_all _ _ c.loop-block.invariant c.in-None.ensures.steps
