-- The lists of an accepted deck pass the engine's checks with the header's numbers: the engine sees them by this alone. Assumes nothing.
use mathlib.Core.List.{List}
use mathlib.Core.Path.{◌≡◌, ◌∙◌}
use Prim.Native.Nat.{ℕ, ◌+◌, ◌*◌, ◌/◌, ◌%◌, ◌<◌}
use native.Mathlib.Omega.{arith}
use lib.ListN.{length}
use lib.Dec.{ltb}
use borrow.Author.Tests.{ltb-true}
use Rattle.words.proofs.Tab.{length-tab, get_or-tab}
use Rattle.words.proofs.Refusals.{both, must_good, scan_good}
use Rattle.words.specs.Refusals.{Good}
use Rattle.words.specs.declared.Reason.TheVariants.{WrongRule}
use Rattle.meaning.specs.Net.{word}
use Rattle.lists.specs.Lists.{lists_check}
use Rattle.lists.proofs.Right.{RuleIn, right_rule_lem, EdgeIn, RightLists, accepting}
use Rattle.deck.specs.Blocks.{word_at, record_at}
use Rattle.deck.specs.Reads.{deck_numbers, rule_record_check, entry_of, rules_of, edge_word, edges_of, deck_check}
use Rattle.deck.proofs.Handed.{limited, RightDeck, edge_right, edge_known, right_deck}
use Rattle.deck.proofs.Map.{label_in}

module _ (d : List ℕ) where
  pub length_rules : length (rules_of d) ≡ 3 * word_at d 0 4
  unfolding rules_of
  length_rules = length-tab _ _

  pub length_edges : length (edges_of d) ≡ 3 * word_at d 0 5
  unfolding edges_of
  length_edges = length-tab _ _

  -- word k of rule r, and of edge e
  pub rule_word : (r k : ℕ) → r < word_at d 0 4 → k < 3 → word (rules_of d) r k ≡ record_at d 3 r k
  unfolding rules_of word
  rule_word r k h l =
      let q : (3 * r + k) / 3 ≡ r = omega arith in
      let m : (3 * r + k) % 3 ≡ k = omega arith in
      get_or-tab _ _ (3 * r + k) (omega arith) ∙ rw (q, m)

  pub edge_word_lem : (e k : ℕ) → e < word_at d 0 5 → k < 3 → word (edges_of d) e k ≡ edge_word d e k
  unfolding edges_of word
  edge_word_lem e k h l =
      let q : (3 * e + k) / 3 ≡ e = omega arith in
      let m : (3 * e + k) % 3 ≡ k = omega arith in
      get_or-tab _ _ (3 * e + k) (omega arith) ∙ rw (q, m)

module _ (d : List ℕ) (ok : RightDeck d) where
  rule_in_lem : (r : ℕ) → r < word_at d 0 4 → RuleIn (deck_numbers d) (word (rules_of d) r 0) (word (rules_of d) r 1) (word (rules_of d) r 2)
  unfolding rule_record_check
  rule_in_lem r h =
      rw (rule_word d r 0 h (omega arith), rule_word d r 1 h (omega arith), rule_word d r 2 h (omega arith))
      ((right_rule_lem (deck_numbers d) _ _ _).0 ((must_good _ WrongRule r).0 ((scan_good (rule_record_check d) _).0 ok.rules r h)))

  edge_in : (e : ℕ) → e < word_at d 0 5 → EdgeIn (deck_numbers d) (word (edges_of d) e 0) (word (edges_of d) e 1) (word (edges_of d) e 2)
  edge_in e h =
      let n = (both (ltb (record_at d 4 e 0) (word_at d 0 0)) (ltb (record_at d 4 e 2) (word_at d 0 0))).0 (edge_right d ok.edges e h).0 in
      rw (edge_word_lem d e 0 h (omega arith), edge_word_lem d e 1 h (omega arith), edge_word_lem d e 2 h (omega arith))
      (record {
        from = ltb-true _ _ n.0;
        label = label_in d ok.entries (entry_of d (record_at d 4 e 1)) (edge_known d ok.edges e h);
        to = ltb-true _ _ n.1;
      })

  right_lists : RightLists (deck_numbers d) (rules_of d) (edges_of d)
  right_lists =
      let l = limited d ok.header in
      let n = length_rules d in
      let m = length_edges d in
      record {
        whole_rules = omega arith;
        whole_edges = omega arith;
        nodes = l.nodes;
        nonterminals = l.nonterminals;
        labels = l.labels;
        many_rules = omega arith;
        many_edges = omega arith;
        rule = λ r h. rule_in_lem r (omega arith);
        edge = λ e h. edge_in e (omega arith);
      }

pub accepted_lists : (d : List ℕ) → deck_check d ≡ Good → lists_check (deck_numbers d) (rules_of d) (edges_of d) ≡ Good
accepted_lists d e = accepting _ _ _ (right_lists d (right_deck d e))
