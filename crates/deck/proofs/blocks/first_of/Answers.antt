-- `deck::blocks::first_of` meets its contract. Assumes nothing.
use mathlib.Core.Path.{ap, ◌∙◌}
use native.Mathlib.Omega.{arith}
use Rattle.deck.specs.declared.reader.Reader.{Reader}
use Rattle.deck.proofs.Readers.{lower_none, lower_more, lower_here, lower_all}
use Rattle.deck.proofs.blocks.first_of.Goals as goal

pub loop-block-init : goal.loop-block-init
loop-block-init c = let o = c.open-block-items.ensures in
    let e = c.into_iter-block-iterator.ensures.into_iter_gives in
    lower_none _ _ (ap (λ (r : Reader). r.deck.now) e ∙ o.deck) (ap (λ (r : Reader). r.next) e ∙ o.next)

pub returns-then-from-type_byte : goal.returns-then-from-type_byte
returns-then-from-type_byte c = lower_here _ _ c.loop-block.invariant c.in-Some.ensures.steps (omega arith)

pub loop-block-preserved : goal.loop-block-preserved
loop-block-preserved c = lower_more _ _ c.loop-block.invariant c.in-Some.ensures.steps (omega arith)

pub returns : goal.returns
returns c = lower_all _ _ c.loop-block.invariant c.in-None.ensures.steps
