-- What an accepted read leaves to its caller, and how long lists must be for every deck. Assumes nothing.
use mathlib.Core.List.{List}
use mathlib.Core.Path.{◌≡◌, refl, sym, ap, ◌∙◌}
use Prim.Native.Nat.{ℕ, ◌*◌, ◌≤◌, ◌<◌}
use native.Mathlib.Omega.{arith}
use lib.ListN.{length, take}
use Rattle.words.proofs.Tab.{over_fits, take-over}
use Rattle.words.proofs.Refusals.{and_good}
use Rattle.words.specs.Refusals.{Refusal, Check, Good}
use Rattle.std.specs.Prelude.{Result, Ok, Err}
use Rattle.lists.specs.Lists.{lists_check}
use Rattle.numbers.proofs.Right.{room_good}
use Rattle.deck.specs.declared.Header.{Header}
use Rattle.deck.specs.Blocks.{word_at}
use Rattle.deck.specs.Reads.{header_of, numbers_in, deck_check, read_check, rules_of, edges_of, header_if, written}
use Rattle.deck.proofs.Handed.{right_deck, limited, read_stop, read_next}
use Rattle.deck.proofs.Lists.{length_rules, length_edges, accepted_lists}

-- the header and the lists that an accepted read leaves: the engine's lists are their fronts
pub record ReadIs (d : List ℕ) (h : Header) (rules edges : List ℕ) : Type 0 where
  pub check : deck_check d ≡ Good
  pub header : h ≡ header_of d
  pub rules_many : h.rules ≤ 256
  pub edges_many : h.edges ≤ 4096
  pub rules_fit : 3 * h.rules ≤ length rules
  pub edges_fit : 3 * h.edges ≤ length edges
  pub rules_are : take (3 * h.rules) rules ≡ rules_of d
  pub edges_are : take (3 * h.edges) edges ≡ edges_of d
  pub lists : lists_check (numbers_in h) (rules_of d) (edges_of d) ≡ Good
  pub query : h.query < h.nonterminals

module _ (d : List ℕ) where
  read_good : (c : Check) {h : Header} → header_if c d ≡ Ok h → (c ≡ Good) × (h ≡ header_of d)
  read_good (Ok tt) e = (refl, cc)
  read_good (Err r) {h} e = let z : ◌≡◌ {A = ℕ} 0 1 = cc in absurd (omega arith)

  pub read_bad : (c : Check) {r : Refusal} → header_if c d ≡ Err r → c ≡ Err r
  read_bad (Ok tt) {r} e = let z : ◌≡◌ {A = ℕ} 0 1 = cc in absurd (omega arith)
  read_bad (Err s) e = ap Err cc

  -- what `read` promises, where it accepts
  pub read_is :
      (rs es : List ℕ) {a : Result Header Refusal} {h : Header} {rs' es' : List ℕ} →
      a ≡ header_if (read_check d (length rs) (length es)) d →
      rs' ≡ written (read_check d (length rs) (length es)) (rules_of d) rs →
      es' ≡ written (read_check d (length rs) (length es)) (edges_of d) es →
      a ≡ Ok h →
      ReadIs d h rs' es'
  unfolding read_check
  read_is rs es answer r s e =
      let g = read_good (read_check d (length rs) (length es)) (sym answer ∙ e) in
      let x = rw g.0 at r in
      let y = rw g.0 at s in
      let k = ((and_good (deck_check d) _).0 g.0).0 in
      let l = limited d (right_deck d k).header in
      rw (g.1, x, y) (record {
        check = k;
        header = refl;
        rules_many = l.rules.high;
        edges_many = l.edges.high;
        rules_fit = omega (arith, length_rules d, over_fits (rules_of d) rs);
        edges_fit = omega (arith, length_edges d, over_fits (edges_of d) es);
        rules_are = take-over (rules_of d) rs _ (length_rules d);
        edges_are = take-over (edges_of d) es _ (length_edges d);
        lists = accepted_lists d k;
        query = l.query;
      })

  -- lists of 768 and 12,288 words have room for every deck
  pub read_deck : read_check d 768 12288 ≡ deck_check d
  read_deck = go (deck_check d) refl
    where
      go : (c : Check) → deck_check d ≡ c → read_check d 768 12288 ≡ deck_check d
      go (Ok tt) e =
          let l = limited d (right_deck d e).header in
          let rules : 3 * word_at d 0 4 ≤ 768 = omega (arith, l.rules.high) in
          let edges : 3 * word_at d 0 5 ≤ 12288 = omega (arith, l.edges.high) in
          read_next d 768 12288 e ∙ (and_good _ _).1 ((room_good _ _ _).1 rules, (room_good _ _ _).1 edges) ∙ sym e
      go (Err r) e = read_stop d 768 12288 e ∙ sym e
