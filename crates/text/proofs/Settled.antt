-- Two reports of a deck are one text, and the report's promise settles its answer and every byte. Assumes nothing.
use mathlib.Core.Path.{◌≡◌, refl, sym, ap, ◌∙◌}
use mathlib.Core.List.{List}
use Prim.Native.Nat.{ℕ, ◌*◌, ◌/◌, ◌%◌}
use native.Mathlib.Omega.{arith}
use lib.ListN.{length, drop}
use lib.Seq.{drop-length}
use Rattle.words.specs.Tab.{over}
use Rattle.words.proofs.Refusals.{and_good}
use Rattle.words.specs.Refusals.{Check, Good}
use Rattle.std.specs.Prelude.{Option, Some, None, Ok, Err}
use Rattle.meaning.specs.Net.{Net, Sane}
use Rattle.meaning.specs.Trees.{Reached}
use Rattle.meaning.specs.Table.{cells}
use Rattle.meaning.specs.Lengths.{depth, Deepest}
use Rattle.meaning.proofs.FinalTables.{final_lists}
use Rattle.meaning.proofs.Depth.{final_depth}
use Rattle.meaning.proofs.Right.{final_falling}
use Rattle.meaning.proofs.Lengths.{lengths_list}
use Rattle.lists.proofs.Right.{accepted, sane}
use Rattle.deck.specs.declared.Header.{Header}
use Rattle.deck.specs.Reads.{header_of, deck_check, rules_of, edges_of}
use Rattle.deck.proofs.Handed.{right_deck, limited}
use Rattle.deck.proofs.Lists.{accepted_lists}
use Rattle.text.specs.Report.{report_check, net_in, Whole, Reported, Report, ReportIs}
use Rattle.text.proofs.Counted.{Counted, lines_one, pairs_reached}

-- two lists of exactly n words have no rest
no_rest : (n : ℕ) (s t : List ℕ) → length s ≡ n → length t ≡ n → drop n s ≡ drop n t
no_rest n s t e f = sym (ap (λ k. drop k s) e) ∙ drop-length s ∙ sym (drop-length t) ∙ ap (λ k. drop k t) f

module _ {h : Header} {rules edges : List ℕ} (ok : Sane (net_in h rules edges)) {v w : List ℕ} (x : Whole h rules edges v) (y : Whole h rules edges w) where
  abbrev g : Net
  g = net_in h rules edges

  same_table : x.table ≡ y.table
  same_table =
      final_lists x.table y.table x.final y.final
      (no_rest (cells g) x.table y.table x.size y.size)

  same_lengths : x.lengths ≡ y.lengths
  same_lengths =
      lengths_list ok (final_falling ok x.final) x.measured (rw (← same_table) at y.measured)
      (no_rest (cells g) x.lengths y.lengths x.size_lengths y.size_lengths)

  pub whole_one : v ≡ w
  whole_one =
      let s = lines_one ok x.each (rw (← same_table, ← same_lengths) at y.each) in
      x.is ∙ rw (s.0, s.1, same_table) refl ∙ sym y.is

-- an accepted deck's grammar and graph are sane
sane_deck : (d : List ℕ) → deck_check d ≡ Good → Sane (net_in (header_of d) (rules_of d) (edges_of d))
sane_deck d e = sane _ _ _ (accepted _ _ _ (accepted_lists d e))

-- the report of a deck is one text
pub report_one : (d : List ℕ) {v w : List ℕ} → Report d v → Report d w → v ≡ w
unfolding report_check
report_one d {v} {w} x y = go (report_check d) refl x y
  where
    go : (c : Check) → report_check d ≡ c → Reported c (header_of d) (rules_of d) (edges_of d) v → Reported c (header_of d) (rules_of d) (edges_of d) w → v ≡ w
    go (Ok tt) e p q = whole_one (sane_deck d ((and_good _ _).0 e).0) p q
    go (Err r) e p q = p ∙ sym q

-- the answer and the text at the exit
pub record SameReport (r s : Option ℕ) (x y : List ℕ) : Type 0 where
  pub answer : r ≡ s
  pub text : x ≡ y

pub report_settled : (d entry x y : List ℕ) (r s : Option ℕ) → ReportIs d entry x r → ReportIs d entry y s → SameReport r s x y
report_settled d entry x y None None (_, e) (_, f) = record { answer = refl; text = e ∙ sym f }
report_settled d entry x y None (Some n) (h, e) (l, f) = absurd (omega arith)
report_settled d entry x y (Some n) None (h, e) (l, f) = absurd (omega arith)
report_settled d entry x y (Some n) (Some m) (_, e) (_, f) =
    let o = report_one d e.is f.is in
    record {
      answer = ap Some (e.count ∙ ap length o ∙ sym f.count);
      text = e.text ∙ ap (λ w. over w entry) o ∙ sym f.text;
    }

-- no report invents pairs or depth: both are counts of what is reached
module _ (d : List ℕ) (e : report_check d ≡ Good) {w : List ℕ} (x : Whole (header_of d) (rules_of d) (edges_of d) w) where
  right : deck_check d ≡ Good
  unfolding report_check
  right = ((and_good _ _).0 e).0

  -- pairs are as many as it reaches from the queried nonterminal
  pub report_pairs : Counted (λ c. Reached (net_in (header_of d) (rules_of d) (edges_of d)) (header_of d).query (c / (header_of d).nodes) (c % (header_of d).nodes))
      ((header_of d).nodes * (header_of d).nodes) x.pairs
  report_pairs = pairs_reached (sane_deck d right) x.final (limited d (right_deck d right).header).query (omega arith) x.each

  -- and the depth is the largest of its heights
  pub report_depth : Deepest (net_in (header_of d) (rules_of d) (edges_of d)) (depth x.table (cells (net_in (header_of d) (rules_of d) (edges_of d))))
  report_depth = final_depth (sane_deck d right) x.table x.final
