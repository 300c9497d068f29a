-- The map of a deck whose entries are right: its kinds rise, and a kind's label is that of the entry that a search finds. Assumes nothing.
use mathlib.Core.List.{List}
use mathlib.Core.Bool.{true, ◌&&◌}
use mathlib.Core.Path.{◌≡◌, sym, ◌∙◌}
use mathlib.Core.Logic.{◌≢◌}
use Prim.Native.Nat.{ℕ, suc, ◌-◌, ◌≤◌, ◌<◌}
use native.Mathlib.Nat.{le_refl}
use native.Mathlib.Omega.{arith}
use lib.ListN.{length, get_or, take}
use lib.Dec.{eqb, ltb}
use borrow.Author.Tests.{ltb-true, ltb-false, lt-ltb, le-ltb, ne_eqb}
use borrow.Table.Steps.{cases}
use Rattle.std.specs.Prelude.{Some, None, is_some, Result, Ok, Err, MatchResult}
use Rattle.std.specs.Ordering.{nat_cmp}
use Rattle.std.specs.List.Sorted.{IsBinarySearchResult}
use Rattle.std.proofs.lemmas.List.Sorted.{searched}
use Rattle.std.proofs.lemmas.List.{get_or-take, length-take-le}
use Rattle.words.proofs.First.{first_end}
use Rattle.words.proofs.Refusals.{both, must_good, scan_good}
use Rattle.words.specs.declared.Reason.TheVariants.{WrongEntry}
use Rattle.numbers.specs.Numbers.{between}
use Rattle.numbers.proofs.Right.{Between, between_true}
use Rattle.deck.specs.Blocks.{word_at, record_at}
use Rattle.deck.specs.Reads.{rising, right_entry, entry_check, entry_of}
use Rattle.deck.specs.Stages.{RightMap, HoldsKinds, label_at}
use Rattle.deck.proofs.Rising.{weakly, first_hit}

-- a kind has a label exactly if the map has it
pub label_some : (d : List ℕ) (kind : ℕ) → is_some (label_at d kind) ≡ ltb (entry_of d kind) (word_at d 0 3)
unfolding label_at
label_some d kind =
    cases (ltb (entry_of d kind) (word_at d 0 3)) (λ t. rw t) (λ f. rw f)

module _ (d : List ℕ) (ok : RightMap d) where
  right : (m : ℕ) → m < word_at d 0 3 → (rising d m ≡ true) × (between 1 (word_at d 0 2) (record_at d 2 m 1) ≡ true)
  unfolding entry_check
  right m h =
      let e = (must_good (right_entry d m) WrongEntry m).0 ((scan_good (entry_check d) (word_at d 0 3)).0 ok m h) in
      let f = (both (rising d m && between 1 (word_at d 0 2) (record_at d 2 m 1)) (eqb (record_at d 2 m 2) 0)).0 e in
      (both (rising d m) (between 1 (word_at d 0 2) (record_at d 2 m 1))).0 f.0

  pub kinds_rise : (m : ℕ) → suc m < word_at d 0 3 → record_at d 2 m 0 < record_at d 2 (suc m) 0
  kinds_rise m h =
      let one : suc m - 1 ≡ m = omega arith in
      ltb-true _ _ (rw (ne_eqb (suc m) 0 (λ e. omega arith), one) at (right (suc m) h).0)

  pub label_in : (m : ℕ) → m < word_at d 0 3 → Between 1 (word_at d 0 2) (record_at d 2 m 1)
  label_in m h = (between_true _ _ _).0 (right m h).1

  module _ (l : List ℕ) (is : HoldsKinds d l) where
    pub kinds_weakly : (i j : ℕ) → i ≤ j → j < word_at d 0 3 → get_or l i 0 ≤ get_or l j 0
    kinds_weakly i j h k = rw (is i (omega arith), is j k) (weakly (λ m. record_at d 2 m 0) (word_at d 0 3) kinds_rise i j h k)

    -- what a search finds
    module _ (kind : ℕ) where
      pub label_found : (m : ℕ) → m < word_at d 0 3 → get_or l m 0 ≡ kind → label_at d kind ≡ Some (record_at d 2 m 1)
      unfolding entry_of label_at
      label_found m h e = rw (first_hit (λ m. record_at d 2 m 0) (word_at d 0 3) kinds_rise kind m h (sym (is m h) ∙ e), lt-ltb m (word_at d 0 3) h)

      pub label_none : ((m : ℕ) → m < word_at d 0 3 → get_or l m 0 ≢ kind) → label_at d kind ≡ None
      unfolding entry_of label_at
      label_none other =
          let none = (first_end (λ m. eqb (record_at d 2 m 0) kind) (word_at d 0 3)).1 (λ m h. ne_eqb _ kind (λ q. other m h (is m h ∙ q))) in
          rw (none, le-ltb (word_at d 0 3) (word_at d 0 3) (le_refl (word_at d 0 3)))

    -- what a search among them answers
    pub label_searched : (n kind : ℕ) (r : Result ℕ ℕ) → n ≡ word_at d 0 3 → n ≤ length l → IsBinarySearchResult (λ y. nat_cmp y kind) (take n l) r
        → MatchResult r (λ m. label_at d kind ≡ Some (record_at d 2 m 1)) (λ _. label_at d kind ≡ None)
    label_searched n kind r e h is = go r (searched (take n l) kind r is rise)
      where
        many : length (take n l) ≡ n
        many = length-take-le n l h

        rise : (i j : ℕ) → i ≤ j → j < length (take n l) → get_or (take n l) i 0 ≤ get_or (take n l) j 0
        rise i j a b =
            rw (get_or-take n l i 0 (omega (arith, many)), get_or-take n l j 0 (omega (arith, many)))
            (kinds_weakly i j a (omega (arith, many)))

        go : (r : Result ℕ ℕ)
            → MatchResult r (λ i. (i < length (take n l)) × (get_or (take n l) i 0 ≡ kind)) (λ i. (i ≤ length (take n l)) × ((k : ℕ) → k < i → get_or (take n l) k 0 < kind) × ((k : ℕ) → i ≤ k → k < length (take n l) → kind < get_or (take n l) k 0))
            → MatchResult r (λ m. label_at d kind ≡ Some (record_at d 2 m 1)) (λ _. label_at d kind ≡ None)
        go (Ok m) f = label_found kind m (omega (arith, many, f.0)) (sym (get_or-take n l m 0 (omega (arith, many, f.0))) ∙ f.1)
        go (Err i) f =
            label_none kind (λ m b q.
            let g : get_or (take n l) m 0 ≡ kind = get_or-take n l m 0 (omega arith) ∙ q in
            cases (ltb m i)
            (λ t. omega (arith, f.1 m (ltb-true m i t)))
            (λ t. omega (arith, f.2 m (ltb-false m i t) (omega (arith, many)))))
