-- `deck::records::Records::new` meets its contract. Assumes nothing.
use mathlib.Core.Path.{◌≡◌, ap, sym, ◌∙◌}
use native.Mathlib.Omega.{arith}
use Rattle.words.specs.Refusals.{Good}
use Rattle.deck.specs.Reads.{header_check}
use Rattle.deck.specs.Stages.{limits_of}
use Rattle.deck.specs.declared.Header.{Header}
use Rattle.deck.proofs.Handed.{sized, limited, limits_are}
use Rattle.deck.proofs.records.Records.new.Goals as goal

pub header-header-requires : goal.header-header-requires
header-header-requires c = (sized _ c.requires).some

pub invariant_of-result : goal.invariant_of-result
invariant_of-result c = let e = c.header-header.ensures in
    let good : header_check c.args.deck.now ≡ Good = limits_are _ ∙ ap limits_of (sym e) ∙ sym c.limits.ensures ∙ c.in_ok-limits.was in
    let l = limited _ good in record {
      small = (sized _ c.requires).most;
      header_is = e;
      sections_are = c.sections.ensures;
      entries_few = omega (arith, ap (λ (h : Header). h.entries) e, l.entries);
      rules_few = omega (arith, ap (λ (h : Header). h.rules) e, l.rules);
      edges_few = omega (arith, ap (λ (h : Header). h.edges) e, l.edges);
    }
