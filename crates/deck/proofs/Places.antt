-- Where the records of a right deck lie: `record_at` reads a used record of a block of its type. Assumes nothing.
use mathlib.Core.List.{List}
use mathlib.Core.Bool.{Bool, true, false≢true}
use mathlib.Core.Path.{◌≡◌, sym, ◌∙◌}
use mathlib.Core.Logic.{◌↔◌, ⊎_elim}
use Prim.Native.Nat.{ℕ, zero, suc, ◌+◌, ◌*◌, ◌-◌, ◌/◌, ◌%◌, ◌≤◌, ◌<◌}
use native.Mathlib.Nat.{not-suc-le-zero, le_of_suc-le-suc, eq-or-lt_of_le, le_refl}
use native.Mathlib.Omega.{arith}
use lib.Dec.{eqb, leb, ltb}
use borrow.Author.Tests.{eqb-true, eqb-false, eq-eqb, ne_eqb, leb-true, leb-false, le-leb, ltb-true, ltb-false}
use borrow.Table.Steps.{cases}
use Rattle.words.specs.First.{first}
use Rattle.words.proofs.First.{first_here, first_none, first_lowest}
use Rattle.words.proofs.Refusals.{both, must_good, scan_good}
use Rattle.words.specs.Refusals.{Good}
use Rattle.words.specs.declared.Reason.TheVariants.{WrongCount}
use Rattle.numbers.specs.Numbers.{between}
use Rattle.numbers.proofs.Right.{Between, between_true}
use Rattle.deck.specs.Blocks.{blocks, type_of, used_of, word_at, zeros_from, right_records, total, first_of}
use Rattle.deck.specs.Reads.{frame_check, fill_check, right_totals, totals_check, deck_check}
use Rattle.deck.proofs.Handed.{RightDeck, right_deck}
use Rattle.deck.proofs.Framed.{Framed, framed, right_fill, fill_is}

-- record r of type t is a used record of block b, which has that type
pub record Lies (d : List ℕ) (t r b : ℕ) : Type 0 where
  pub block : b < blocks d
  pub type : type_of d b ≡ t
  pub used : r % 84 < used_of d b

total_rises : (d : List ℕ) (t i j : ℕ) → i ≤ j → total d t i ≤ total d t j
unfolding total
total_rises d t i zero l = let z : i ≡ 0 = omega arith in rw z (le_refl 0)
total_rises d t i (suc j) l =
    ⊎_elim (λ e. rw e (le_refl _)) (λ k. omega (arith, total_rises d t i j (le_of_suc-le-suc k))) (eq-or-lt_of_le l)

module _ (d : List ℕ) (ok : RightDeck d) where
  frame : (b : ℕ) → b < blocks d → Framed d b
  frame b h = framed d b ((scan_good (frame_check d) _).0 ok.frames b h)

  -- types never fall
  types_rise : (i j : ℕ) → i ≤ j → j < blocks d → type_of d i ≤ type_of d j
  types_rise i zero l h = let z : i ≡ 0 = omega arith in rw z (le_refl (type_of d 0))
  types_rise i (suc j) l h =
      let one : suc j - 1 ≡ j = omega arith in
      let up : type_of d j ≤ type_of d (suc j) = rw one at ((frame (suc j) h).rise (λ e. omega arith)) in
      ⊎_elim (λ e. rw e (le_refl (type_of d (suc j)))) (λ k. omega (arith, types_rise i j (le_of_suc-le-suc k) (omega arith))) (eq-or-lt_of_le l)

  -- the totals are the header's words 3, 4 and 5
  totals_are : (t : ℕ) → Between 2 4 t → total d t (blocks d) ≡ word_at d 0 (t + 1)
  unfolding totals_check
  totals_are t h =
      let e = (must_good (right_totals d) WrongCount 0).0 ok.totals in
      let c = (both _ _).0 e in
      let a = (both _ _).0 c.0 in
      cases (eqb t 2)
      (λ q. rw (eqb-true t 2 q) (eqb-true _ _ a.0))
      (λ n. cases (eqb t 3)
      (λ q. rw (eqb-true t 3 q) (eqb-true _ _ a.1))
      (λ m. let q : t ≡ 4 = omega (arith, eqb-false t 2 n, eqb-false t 3 m) in rw q (eqb-true _ _ c.1)))

  module _ (b : ℕ) (h : b < blocks d) (some : 2 ≤ type_of d b) where
    right_records_lem : right_records d b ≡ true
    right_records_lem =
        let f = (scan_good (fill_check d) _).0 ok.fills b h in
        let g = (must_good (right_fill d b) WrongCount b).0 (sym (fill_is d b (frame b h)) ∙ f) in
        rw (ne_eqb (type_of d b) 1 (λ e. omega arith)) at g

    at_most : used_of d b ≤ 84
    at_most = ((between_true 1 84 (used_of d b)).0 ((both _ _).0 ((both _ _).0 right_records_lem).0).0).high

    -- a block that is not the last of its type is full
    full : b + 1 < blocks d → type_of d (b + 1) ≡ type_of d b → used_of d b ≡ 84
    full l same =
        let p = ((both (between 1 84 (used_of d b)) _).0 ((both _ (zeros_from d b (3 * used_of d b))).0 right_records_lem).0).1 in
        let q = rw (ne_eqb (b + 1) (blocks d) (λ e. omega arith), eq-eqb (type_of d (b + 1)) (type_of d b) same) at p in
        cases (eqb (used_of d b) 84) (λ t. eqb-true _ _ t) (λ f. absurd (false≢true (rw f at q)))

  module _ (t : ℕ) (is : Between 2 4 t) where
    -- the blocks from the first of type t on have no lower type
    from_first : (b : ℕ) → first_of d t ≤ b → b < blocks d → t ≤ type_of d b
    unfolding first_of
    from_first b l h =
        let p : ℕ → Bool = λ b. leb t (type_of d b) in
        omega (arith, leb-true t _ (first_here p (blocks d) (omega arith)), types_rise (first p (blocks d)) b l h)

    before_first : (b : ℕ) → b < first_of d t → type_of d b < t
    unfolding first_of
    before_first b h = leb-false t _ (first_none (λ b. leb t (type_of d b)) (blocks d) b h)

    not_before : (b : ℕ) → type_of d b ≡ t → first_of d t ≤ b
    unfolding first_of
    not_before b e = first_lowest (λ b. leb t (type_of d b)) (blocks d) b (le-leb t (type_of d b) (omega arith))

    -- up to a block of type t, all blocks of the type are full
    total_full : (b : ℕ) → b < blocks d → type_of d b ≡ t → (i : ℕ) → i ≤ b → total d t i ≡ 84 * (i - first_of d t)
    unfolding total
    total_full b h e zero l = omega arith
    total_full b h e (suc i) l =
        let below = total_full b h e i (omega arith) in
        cases (ltb i (first_of d t))
        (λ q.
        let k = ltb-true i (first_of d t) q in
        rw (ne_eqb (type_of d i) t (λ s. omega (arith, before_first i k))) (omega arith))
        (λ q.
        let k = ltb-false i (first_of d t) q in
        let here : type_of d i ≡ t = omega (arith, from_first i k (omega arith), types_rise i b (omega arith) h) in
        let next : type_of d (i + 1) ≡ t = omega (arith, from_first (i + 1) (omega arith) (omega arith), types_rise (i + 1) b (omega arith) h) in
        rw (eq-eqb (type_of d i) t here) (omega (arith, full i (omega arith) (omega arith) (omega arith) (next ∙ sym here))))

    -- record r is in one of the first n blocks
    lies : (r n : ℕ) → n ≤ blocks d → r < total d t n → Lies d t r (first_of d t + r / 84)
    unfolding total
    lies r zero l h = absurd (not-suc-le-zero h)
    lies r (suc n) l h =
        cases (ltb r (total d t n))
        (λ q. lies r n (omega arith) (ltb-true _ _ q))
        (λ q.
        let k = ltb-false r (total d t n) q in
        cases (eqb (type_of d n) t)
        (λ s.
        let e = eqb-true (type_of d n) t s in
        let u = rw s at h in
        let m = at_most n l (omega arith) in
        let a = total_full n l e n (le_refl n) in
        let f = not_before n e in
        let b : first_of d t + r / 84 ≡ n = omega arith in
        rw b (record { block = l; type = e; used = omega arith }))
        (λ s. let u = rw s at h in absurd (omega arith)))

    counted : (r : ℕ) → Lies d t r (first_of d t + r / 84) → r < total d t (blocks d)
    unfolding total
    counted r l =
        let b = first_of d t + r / 84 in
        let a = total_full b l.block l.type b (le_refl b) in
        let m : total d t b + used_of d b ≤ total d t (blocks d) = rw (eq-eqb (type_of d b) t l.type) at (total_rises d t (suc b) (blocks d) l.block) in
        omega (arith, l.used)

-- record r of type t (2 map, 3 rules, 4 edges) is below the header's count exactly if `record_at` finds it among the used records of a block of type t
pub record_lies : (d : List ℕ) (t r : ℕ) → deck_check d ≡ Good → Between 2 4 t → (r < word_at d 0 (t + 1)) ↔ Lies d t r (first_of d t + r / 84)
record_lies d t r e is =
    let ok = right_deck d e in
    rw (← totals_are d ok t is) (lies d ok t is r (blocks d) (le_refl (blocks d)), counted d ok t is r)
