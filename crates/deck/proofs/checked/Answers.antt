-- `deck::checked` meets its contract. Assumes nothing.
use mathlib.Core.Path.{◌≡◌, sym, ◌∙◌}
use borrow.Author.Rules.{rules}
use Rattle.words.specs.Refusals.{scan}
use Rattle.words.proofs.Refusals.{and_next, and_stop, handed_on}
use Rattle.deck.specs.Blocks.{blocks}
use Rattle.deck.specs.Reads.{frame_check, deck_check}
use Rattle.deck.proofs.checked.Goals as goal

pub returns-in_err-each-clause-err : goal.returns-in_err-each-clause-err
unfolding deck_check
returns-in_err-each-clause-err c = let d = c.args.deck.now in
    let here : c.each.result ≡ scan (frame_check d) (blocks d) = c.each.ensures (frame_check d) (λ b q e p. let s : q ≡ frame_check b.deck.now b.position = search rules in rw e at s) in
    rw (handed_on _ c.from_residual-in_err-each.ensures.1) (and_next (sym c.size_check.ensures ∙ c.in_ok-size_check.was) ∙ and_stop _ (sym here ∙ c.in_err-each.was))
