-- What the code tests of a cell, by its key taken apart, is what the table check asks of it. Assumes nothing.
use mathlib.Core.Bool.{Bool, true, false, not, ◌&&◌}
use mathlib.Core.Path.{◌≡◌, refl, sym, ap, ◌∙◌}
use mathlib.Core.List.{List}
use mathlib.Core.Logic.{◌≢◌}
use Prim.Native.Nat.{ℕ, ◌/◌, ◌≤◌, ◌<◌}
use native.Mathlib.Omega.{arith}
use lib.ListN.{length}
use lib.Dec.{eqb, ltb}
use borrow.Author.Tests.{lt-ltb, le-ltb, eq-eqb, ne_eqb, eqb-true, eqb-false}
use borrow.Table.Steps.{cases}
use Rattle.std.specs.Prelude.{is_some}
use Rattle.key.specs.Keys.{EMPTY, height_of, rule_of, parts_of}
use Rattle.key.specs.declared.Parts.{Parts}
use Rattle.meaning.specs.Net.{word}
use Rattle.meaning.specs.Records.{rule_at}
use Rattle.meaning.specs.Computed.{is_leaf, is_pair, right_cell, right_word, right_sides}
use Rattle.meaning.specs.declared.Rule.TheVariants.{Label, Pair}
use Rattle.meaning.proofs.Rules.{label_words, pair_words}
use Rattle.witness.specs.Walks.{at_spot, found_edge, sides_right, leaf_right, pair_right}
use Rattle.witness.specs.declared.spot.Spot.{Spot}
use Rattle.witness.proofs.Found.{found_some}

and_swap : (a b c : Bool) → a && (b && c) ≡ b && (a && c)
and_swap true b c = refl
and_swap false true c = refl
and_swap false false c = refl

module _ (rules edges t ls : List ℕ) (s : Spot) {v l : ℕ} {k : Parts} (held : v ≡ at_spot t s) (long : l ≡ at_spot ls s) (key : k ≡ parts_of v)
    (filled : v ≢ EMPTY) where
  height : k.height ≡ height_of v
  height = ap (λ (k : Parts). k.height) key

  pub cell_leaf : k.height ≡ 1 → leaf_right rules edges s k l ≡ right_cell s.nodes rules edges t ls s.a s.i s.j
  unfolding leaf_right right_cell right_word
  cell_leaf h = rw (← held, ← long, ne_eqb v EMPTY filled, eq-eqb (height_of v) 1 (sym height ∙ h), key)

  pub cell_pair : v < 18446744073709551616 → k.height ≢ 1
      → pair_right rules t ls s k l ≡ right_cell s.nodes rules edges t ls s.a s.i s.j
  unfolding pair_right sides_right right_cell right_word right_sides
  cell_pair fits h =
      rw (← held, ← long, ne_eqb v EMPTY filled, ne_eqb (height_of v) 1 (λ e. h (height ∙ e)), lt-ltb v EMPTY (omega arith), key)
      (and_swap (is_pair rules s.a (rule_of v)) (ltb 1 (height_of v)) _)

-- a word that is not the empty one is less
pub not_empty : (w : ℕ) → w < 18446744073709551616 → not (eqb w EMPTY) ≡ ltb w EMPTY
not_empty w h =
    cases (eqb w EMPTY)
    (λ t. rw (t, le-ltb w EMPTY (omega (arith, eqb-true w EMPTY t))))
    (λ f. rw (f, lt-ltb w EMPTY (let ne = eqb-false w EMPTY f in omega arith)))

-- what a rule says of the test of its cell: past the list, a label rule, a pair rule
module _ (rules : List ℕ) (s : Spot) where
  module _ (edges : List ℕ) (r : ℕ) where
    pub leaf_past : length rules / 3 ≤ r → is_leaf rules edges s.a s.i s.j r ≡ false
    unfolding is_leaf
    leaf_past h = rw (le-ltb r (length rules / 3) h)

    pub leaf_label : {A x : ℕ} → r < length rules / 3 → Label A x ≡ rule_at rules r → A ≡ s.a
        → is_leaf rules edges s.a s.i s.j r ≡ is_some (found_edge edges s.i x s.j)
    unfolding is_leaf
    leaf_label h e q =
        let w = label_words e in
        rw (lt-ltb r (length rules / 3) h, w.head, w.label, w.mark, found_some, eq-eqb _ s.a q)

    pub leaf_other : {A x : ℕ} → Label A x ≡ rule_at rules r → A ≢ s.a → is_leaf rules edges s.a s.i s.j r ≡ false
    unfolding is_leaf
    leaf_other e q =
        let w = label_words e in
        cases (ltb r (length rules / 3)) (λ t. rw (t, w.head, ne_eqb _ s.a q)) (λ f. rw f)

    pub leaf_pair : {A B C : ℕ} → Pair A B C ≡ rule_at rules r → is_leaf rules edges s.a s.i s.j r ≡ false
    unfolding is_leaf
    leaf_pair e = let w = pair_words e in
        cases (ltb r (length rules / 3)) (λ t. cases (eqb (word rules r 0) s.a) (λ u. rw (t, u, w.pair)) (λ f. rw (t, f))) (λ f. rw f)

  module _ (t ls : List ℕ) (k : Parts) (l : ℕ) where
    pub pair_past : length rules / 3 ≤ k.rule → pair_right rules t ls s k l ≡ false
    unfolding pair_right is_pair
    pair_past h = rw (le-ltb k.rule (length rules / 3) h)

    pub pair_pair : {A B C : ℕ} → k.rule < length rules / 3 → Pair A B C ≡ rule_at rules k.rule → A ≡ s.a
        → pair_right rules t ls s k l ≡ sides_right t ls s k B C l
    unfolding pair_right is_pair
    pair_pair h e q =
        let w = pair_words e in
        rw (lt-ltb k.rule (length rules / 3) h, w.head, w.pair, w.left, w.right, eq-eqb _ s.a q)

    pub pair_other : {A B C : ℕ} → Pair A B C ≡ rule_at rules k.rule → A ≢ s.a → pair_right rules t ls s k l ≡ false
    unfolding pair_right is_pair
    pair_other e q =
        let w = pair_words e in
        cases (ltb k.rule (length rules / 3)) (λ t. rw (t, w.head, ne_eqb _ s.a q)) (λ f. rw f)

    pub pair_label : {A x : ℕ} → Label A x ≡ rule_at rules k.rule → pair_right rules t ls s k l ≡ false
    unfolding pair_right is_pair
    pair_label e =
        let w = label_words e in
        cases (ltb k.rule (length rules / 3)) (λ u. cases (eqb (word rules k.rule 0) s.a) (λ v. rw (u, v, w.mark)) (λ f. rw (u, f))) (λ f. rw f)
