-- `deck::records::Labels::edge_word` meets its contract: the kind of a right edge has a label. Assumes nothing.
use mathlib.Core.Path.{ap}
use native.Mathlib.Omega.{arith}
use Rattle.deck.specs.declared.Header.{Header}
use Rattle.deck.proofs.Handed.{edge_label}
use Rattle.deck.proofs.records.Labels.edge_word.Goals as goal

pub unwrap-requires : goal.unwrap-requires
unwrap-requires c = let s = c.args.self.now in
    let n = ap (λ (h : Header). h.edges) s.records.header_is in
    rw (c.of.ensures, c.word-word.ensures, c.if-k-eq1.true, edge_label s.records.deck.now c.requires.right c.args.e (omega (arith, n)))

pub returns-then-k-eq1 : goal.returns-then-k-eq1
returns-then-k-eq1 c = let s = c.args.self.now in
    let n = ap (λ (h : Header). h.edges) s.records.header_is in
    let l = edge_label s.records.deck.now c.requires.right c.args.e (omega (arith, n)) in
    let f = rw (c.of.ensures, c.word-word.ensures, c.if-k-eq1.true, l) at c.unwrap.ensures in
    rw c.if-k-eq1.true cc
