-- Laws of the whole report: what the reader hands on, what is small, and the report from its pieces. Assumes nothing.
use mathlib.Core.Path.{◌≡◌, refl, sym, ap, ◌∙◌}
use mathlib.Core.List.{List, ◌++◌}
use Prim.Native.Nat.{ℕ, ◌*◌, ◌≤◌, ◌<◌}
use native.Mathlib.Nat.{mul-le-mul}
use lib.ListN.{length, take}
use borrow.Author.Tests.{leb-true}
use Rattle.std.specs.Prelude.{Result, Ok, Err, MatchResult}
use Rattle.words.specs.declared.Reason.TheVariants.{TooLarge}
use Rattle.words.specs.Refusals.{Refusal, Check, Good, number_of}
use Rattle.words.proofs.Refusals.{must_good, and_good, and_next, and_stop}
use Rattle.meaning.specs.Lengths.{depth}
use Rattle.numbers.specs.declared.Numbers.{Numbers}
use Rattle.numbers.specs.Numbers.{cells_of, large_check}
use Rattle.lists.specs.Lists.{lists_check}
use Rattle.deck.specs.declared.Header.{Header}
use Rattle.deck.specs.Reads.{header_of, numbers_in, read_check, rules_of, edges_of, header_if}
use Rattle.deck.proofs.Handed.{right_deck, limited}
use Rattle.deck.proofs.Leaves.{ReadIs, read_bad, read_deck}
use Rattle.deck.proofs.Lists.{accepted_lists}
use Rattle.text.specs.declared.pen.Pen.{Pen}
use Rattle.text.specs.declared.query.Query.{Query}
use Rattle.text.specs.Text.{opening_line, closing_line, refused_line}
use Rattle.text.specs.Report.{large_deck, report_check, Whole, Report}
use Rattle.text.specs.Pen.{Penned}
use Rattle.text.specs.Queried.{checked_numbers}
use Rattle.text.specs.Penned.{LinesPenned, QueryOf, ReportPenned, ShownIs, Small}
use Rattle.text.proofs.Pens.{penned_more}

-- ---- what is small

-- the check of the numbers that the header holds
pub told_size : (h : Header) {numbers : Numbers} {check answer : Check} → numbers ≡ numbers_in h → check ≡ large_check numbers h.edges
    → check ≡ answer → large_deck h ≡ answer
told_size h n large e = sym (rw n at large) ∙ e

module _ {h : Header} {rules edges : List ℕ} where
  pub sized_small : large_deck h ≡ Good → lists_check (numbers_in h) rules edges ≡ Good → h.query < h.nonterminals → Small h rules edges
  unfolding large_check
  sized_small e l q =
      let a = (and_good _ _).0 e in
      let b = (and_good _ _).0 a.1 in
      record {
        lists = l;
        query = q;
        nodes = leb-true _ 16 ((must_good _ TooLarge 0).0 a.0);
        nonterminals = leb-true _ 8 ((must_good _ TooLarge 1).0 b.0);
      }

  pub small_cells : Small h rules edges → cells_of (numbers_in h) ≤ 2048
  small_cells s = mul-le-mul (mul-le-mul s.nonterminals s.nodes) s.nodes

-- a deck whose pairs the report shows is small
pub report_small : (d : List ℕ) → report_check d ≡ Good → Small (header_of d) (rules_of d) (edges_of d)
unfolding report_check
report_small d e =
    let a = (and_good _ _).0 e in
    sized_small a.1 (accepted_lists d a.0) (limited d (right_deck d a.0).header).query

-- ---- what the reader hands on

module _ (d : List ℕ) where
  -- the report's two lists have room for every deck, so that what the reader refuses is a matter of the deck alone
  pub read_refused :
      (rs es : List ℕ) {a : Result Header Refusal} {r : Refusal} →
      length rs ≡ 768 →
      length es ≡ 12288 →
      a ≡ header_if (read_check d (length rs) (length es)) d →
      a ≡ Err r →
      report_check d ≡ Err r
  unfolding report_check
  read_refused rs es n m answer e =
      let b = read_bad d (read_check d (length rs) (length es)) (sym answer ∙ e) in
      and_stop _ (sym (read_deck d) ∙ (rw (n, m) at b))

  module _ {h : Header} {rules edges : List ℕ} (s : ReadIs d h rules edges) where
    -- what an accepted deck may still be refused for
    pub read_large : report_check d ≡ large_deck h
    unfolding report_check
    read_large = rw (and_next s.check) (ap large_deck (sym s.header))

    pub read_small : large_deck h ≡ Good → Small h (take (3 * h.rules) rules) (take (3 * h.edges) edges)
    read_small e = sized_small e (rw (s.rules_are, s.edges_are) s.lists) s.query

    -- the report of one that is refused for nothing
    pub read_shown : (p q : Pen) (a : Result (Unit {0}) Refusal) → large_deck h ≡ Good
        → MatchResult a (λ _. ReportPenned (Whole h (take (3 * h.rules) rules) (take (3 * h.edges) edges)) p q) (λ _. ⊥) → ShownIs d p q a
    read_shown p q (Ok _) e x = (read_large ∙ e, rw (s.rules_are, s.edges_are, s.header) at x)
    read_shown p q (Err r) e x = absurd x

-- the report of what is shown, and of what is refused
pub shown_report : (d : List ℕ) (p q : Pen) {a : Result (Unit {0}) Refusal} → a ≡ Ok tt → ShownIs d p q a → ReportPenned (Report d) p q
shown_report d p q e x = let s = rw e at x in rw s.0 s.1

pub refused_report : (d : List ℕ) (p q : Pen) {s : Pen} {a : Result (Unit {0}) Refusal} {r : Refusal} → a ≡ Err r → ShownIs d p q a
    → Penned q s (refused_line (number_of r.reason) r.place) → ReportPenned (Report d) p s
refused_report d p q e x y = let s = rw e at x in rw s.0 (record { text = _; is = refl; penned = rw s.1 at y })

-- ---- the report from its pieces

pub whole_penned : {h : Header} {q : Query} {d k : ℕ} {p r s t : Pen} → QueryOf h q → d ≡ depth q.checked.held.table.now (cells_of (numbers_in h))
    → Penned p r (opening_line h.nodes h.edges h.nonterminals h.rules)
    → LinesPenned q ((checked_numbers q.checked).nodes * (checked_numbers q.checked).nodes) r s k
    → Penned s t (closing_line k d) → ReportPenned (Whole h q.checked.held.lists.rules.now q.checked.held.lists.edges.now) p t
whole_penned {h} {q} {d} {k} of deep x v z =
    record {
      text = opening_line h.nodes h.edges h.nonterminals h.rules ++ v.lines ++ closing_line k d;
      is = record {
        table = q.checked.held.table.now;
        lengths = q.checked.held.lengths.now;
        lines = v.lines;
        pairs = k;
        final = rw of.numbers at of.final_query.final;
        size = of.exact.table;
        measured = rw of.numbers at of.final_query.lengths;
        size_lengths = of.exact.lengths;
        each = rw (of.numbers, of.head) at v.each;
        is = ap (λ z. opening_line h.nodes h.edges h.nonterminals h.rules ++ v.lines ++ closing_line k z) deep;
      };
      penned = penned_more (penned_more x v.penned) z;
    }
