-- `deck::records::Labels::of` meets its contract. Assumes nothing.
use mathlib.Core.Path.{sym, ap, ◌∙◌}
use native.Mathlib.Omega.{arith}
use Rattle.std.specs.Prelude.{Some}
use Rattle.deck.specs.declared.Header.{Header}
use Rattle.deck.proofs.Map.{label_searched}
use Rattle.deck.proofs.records.Labels.of.Goals as goal

pub returns-in-Ok : goal.returns-in-Ok
returns-in-Ok c = let s = c.args.self.now in
    let n = ap (λ (h : Header). h.entries) s.records.header_is in
    let found = label_searched s.records.deck.now s.right s.kinds s.held s.records.header.entries c.args.kind c.binary_search.result n (omega arith) c.binary_search.ensures.position in
    ap Some c.word.ensures ∙ sym (rw c.in-Ok.is at found)

pub returns-in-Err : goal.returns-in-Err
returns-in-Err c = let s = c.args.self.now in
    let n = ap (λ (h : Header). h.entries) s.records.header_is in
    let found = label_searched s.records.deck.now s.right s.kinds s.held s.records.header.entries c.args.kind c.binary_search.result n (omega arith) c.binary_search.ensures.position in
    sym (rw c.in-Err.is at found)
