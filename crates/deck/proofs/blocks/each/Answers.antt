-- `deck::blocks::each` meets its contract. Assumes nothing.
use mathlib.Core.Path.{sym, ap, ◌∙◌}
use Rattle.words.proofs.Refusals.{handed_on}
use Rattle.deck.specs.declared.reader.Reader.{Reader}
use Rattle.deck.proofs.Readers.{passed_none, passed_more, passed_bad, passed_all}
use Rattle.deck.proofs.blocks.each.Goals as goal

pub loop-block-init : goal.loop-block-init
loop-block-init g c = let o = c.open-block-items.ensures in
    let e = c.into_iter-block-iterator.ensures.into_iter_gives in
    let d = ap (λ (r : Reader). r.deck.now) e ∙ o.deck in
    record { deck = d; passed = λ k is. passed_none k d (ap (λ (r : Reader). r.next) e ∙ o.next) }

pub check-requires : goal.check-requires
check-requires g c = c.requires _ (c.in-Some.ensures.steps.block_deck ∙ c.loop-block.invariant.deck)

pub loop-block-preserved : goal.loop-block-preserved
loop-block-preserved g c = let i = c.loop-block.invariant in
    let h = c.in-Some.ensures.steps in
    let d = h.block_deck ∙ i.deck in
    record { deck = h.same_deck ∙ i.deck; passed = λ k is. passed_more k (i.passed k is) h (sym (is _ _ d c.check.ensures) ∙ c.in_ok-check.was) }

pub returns-in_err-check : goal.returns-in_err-check
returns-in_err-check g c k is = let i = c.loop-block.invariant in
    let h = c.in-Some.ensures.steps in
    let d = h.block_deck ∙ i.deck in
    handed_on _ c.from_residual.ensures.1 ∙ sym (passed_bad k (i.passed k is) h (sym (is _ _ d c.check.ensures) ∙ c.in_err-check.was))

pub returns : goal.returns
returns g c k is = sym (passed_all k (c.loop-block.invariant.passed k is) c.in-None.ensures.steps)
