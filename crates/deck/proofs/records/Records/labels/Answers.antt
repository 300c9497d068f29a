-- `deck::records::Records::labels` meets its contract. Assumes nothing.
use mathlib.Core.Path.{◌≡◌, ap, sym, ◌∙◌}
use borrow.Author.Rules.{rules}
use Rattle.words.specs.Refusals.{scan}
use Rattle.words.proofs.Refusals.{and_next, and_stop, handed_on}
use Rattle.deck.specs.Blocks.{word_at}
use Rattle.deck.specs.Reads.{entry_check, rule_record_check}
use Rattle.deck.specs.declared.Header.{Header}
use Rattle.deck.proofs.records.Records.labels.Goals as goal

pub returns-in_err-scan-clause-err : goal.returns-in_err-scan-clause-err
returns-in_err-scan-clause-err c = let r = c.args.self in
    let d = r.deck.now in
    let s : c.scan.result ≡ scan (entry_check d) (word_at d 0 3) = c.scan.ensures (entry_check d) (λ k q l p. search rules) ∙ ap (λ (h : Header). scan (entry_check d) h.entries) r.header_is in
    rw (handed_on _ c.from_residual.ensures.1) (and_stop _ (sym s ∙ c.in_err-scan.was))

pub returns-in_err-scan-2-clause-err : goal.returns-in_err-scan-2-clause-err
returns-in_err-scan-2-clause-err c = let r = c.args.self in
    let d = r.deck.now in
    let s : c.scan.result ≡ scan (entry_check d) (word_at d 0 3) = c.scan.ensures (entry_check d) (λ k q l p. search rules) ∙ ap (λ (h : Header). scan (entry_check d) h.entries) r.header_is in
    let t : c.scan-2.result ≡ scan (rule_record_check d) (word_at d 0 4) = c.scan-2.ensures (rule_record_check d) (λ k q l p. search rules) ∙ ap (λ (h : Header). scan (rule_record_check d) h.rules) r.header_is in
    rw (handed_on _ c.from_residual-in_err-scan-2.ensures.1) (and_next (sym s ∙ c.in_ok-scan.was) ∙ and_stop _ (sym t ∙ c.in_err-scan-2.was))
