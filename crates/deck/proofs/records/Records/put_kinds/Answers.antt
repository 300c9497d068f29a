-- `deck::records::Records::put_kinds` meets its contract. Assumes nothing.
use Prim.Native.Nat.{ℕ}
use mathlib.Core.Path.{ap, ◌∙◌}
use native.Mathlib.Omega.{arith}
use borrow.Author.Rules.{rules}
use Rattle.words.specs.Tab.{tab}
use Rattle.words.proofs.Tab.{length-tab, get_or-tab, get_or-over}
use Rattle.deck.specs.Blocks.{record_at}
use Rattle.deck.specs.declared.Header.{Header}
use Rattle.deck.proofs.records.Records.put_kinds.Goals as goal

pub returns : goal.returns
returns c = let s = c.args.self.now in
    let f : ℕ → ℕ = λ m. record_at s.deck.now 2 m 0 in
    let n = ap (λ (h : Header). h.entries) s.header_is in
    let e = c.put_front.ensures f (λ k x l p. search rules) in
    λ m h. rw e (get_or-over (tab f s.header.entries) c.args.kinds.now m (omega (arith, n, length-tab f s.header.entries)) ∙ get_or-tab f s.header.entries m (omega (arith, n)))
