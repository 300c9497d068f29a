-- Each refusal of the reader 'given exactly when': the deck is right up to there, and the place is the lowest one with the fault. Assumes nothing.
use mathlib.Core.List.{List, [], ◌∷◌}
use mathlib.Core.Bool.{Bool, true, false, cond}
use mathlib.Core.Path.{◌≡◌, refl, sym, ap, ◌∙◌}
use mathlib.Core.Logic.Iff
use mathlib.Core.Logic.{◌≢◌, ◌↔◌, ◌⊎◌, inl, inr, ⊎_elim}
use Prim.Native.Nat.{ℕ, zero, suc, ◌*◌, ◌≤◌, ◌<◌}
use native.Mathlib.Omega.{arith}
use lib.ListN.{get_or}
use lib.Dec.{eqb, ltb}
use borrow.Author.Tests.{eqb-true}
use borrow.Table.Steps.{cases}
use Rattle.words.specs.Refusals.{refused, must, ◌and_then◌, scan, Check, Good, number_of}
use Rattle.words.specs.declared.Reason.{Reason}
use Rattle.words.proofs.Refusals.{differs, good_bad, must_good, must_given, and_assoc, and_good, and_bad, scan_good, scan_bad, scan_lowest, Only, only_must, only_and, only_scan, and_first, and_second, LowestWrong, scan_must}
use Rattle.std.specs.Prelude.{Ok, Err}
use Rattle.words.specs.declared.Reason.TheVariants.{WrongSize, WrongSum, WrongOrder, WrongNumber, WrongCount, WrongEntry, WrongRule, WrongEdge, UnknownKind, TooShort}
use Rattle.numbers.specs.Numbers.{in_limits, room_check}
use Rattle.lists.specs.Lists.{right_rule}
use Rattle.numbers.proofs.Right.{room_good}
use Rattle.numbers.proofs.Given.{room_given}
use Rattle.deck.specs.Blocks.{blocks, right_sum, right_order, word_at, record_at}
use Rattle.deck.specs.Reads.{deck_numbers, right_size, size_check, frame_check, limit_check, header_check, fill_check, right_totals, totals_check, right_entry, entry_check, rule_record_check, right_nodes, right_kind, edge_record_check, deck_check, read_check}
use Rattle.deck.proofs.Framed.{framed, right_fill, fill_is, fills_5}

-- ---- the checks by their numbers

-- the checks that give number k: 3 is given beside 2, block by block, and 9 beside 8, edge by edge
abbrev pub stage : List ℕ → ℕ → Check
stage d k =
    get_or
    (Good
    ∷ size_check d
    ∷ scan (frame_check d) (blocks d)
    ∷ Good
    ∷ header_check d
    ∷ (scan (fill_check d) (blocks d) and_then totals_check d)
    ∷ scan (entry_check d) (word_at d 0 3)
    ∷ scan (rule_record_check d) (word_at d 0 4)
    ∷ scan (edge_record_check d) (word_at d 0 5)
    ∷ [])
    k
    Good

-- the deck is right up to there: the stages below k give nothing
abbrev pub up_to : List ℕ → ℕ → Check
up_to d k = scan (stage d) k

-- the stage that gives number k
abbrev home : ℕ → ℕ
home k = cond (eqb k 3) 2 (cond (eqb k 9) 8 k)

pub and_unit : (x : Check) → x and_then Good ≡ x
unfolding ◌and_then◌
and_unit (Ok _) = refl
and_unit (Err r) = refl

scan_same : (c e : ℕ → Check) (n : ℕ) → ((i : ℕ) → i < n → c i ≡ e i) → scan c n ≡ scan e n
unfolding scan
scan_same c e zero f = refl
scan_same c e (suc n) f = rw (scan_same c e n (λ i h. f i (omega arith)), f n (omega arith))

module _ (d : List ℕ) where
  -- the deck's check is these stages in their order
  staged : deck_check d ≡ up_to d 9
  unfolding deck_check scan ◌and_then◌
  staged = sym (simp (and_assoc, and_unit))

  -- each gives its own numbers only
  own : (k : ℕ) → up_to d k ≡ Good → Only (λ r. home (number_of r.reason) ≡ k) (stage d k)
  unfolding size_check header_check totals_check entry_check rule_record_check edge_record_check
  own zero g = λ r e. absurd (good_bad e)
  own (suc zero) g = only_must _ (right_size d) WrongSize 0 refl
  own (suc (suc zero)) g = only_scan _ (frame_check d) _ (λ b _. only_and _ _ _ (only_must _ _ WrongSum b refl) (λ _. only_must _ _ WrongOrder b refl))
  own (suc (suc (suc zero))) g = λ r e. absurd (good_bad e)
  own (suc (suc (suc (suc zero)))) g =
      only_and _ (scan (limit_check d) 6) _ (only_scan _ (limit_check d) 6 (λ k _. only_must _ _ WrongNumber k refl)) (λ _. only_must _ _ WrongNumber 6 refl)
  own (suc (suc (suc (suc (suc zero))))) g =
      only_and _ (scan (fill_check d) (blocks d)) _
      (λ r e. ap (λ (k : Reason). home (number_of k)) (fills_5 d ((scan_good (stage d) 5).0 g 2 (omega arith)) r e))
      (λ _. only_must _ (right_totals d) WrongCount 0 refl)
  own (suc (suc (suc (suc (suc (suc zero)))))) g = only_scan _ (entry_check d) _ (λ m _. only_must _ _ WrongEntry m refl)
  own (suc (suc (suc (suc (suc (suc (suc zero))))))) g = only_scan _ (rule_record_check d) _ (λ r _. only_must _ _ WrongRule r refl)
  own (suc (suc (suc (suc (suc (suc (suc (suc zero)))))))) g =
      only_scan _ (edge_record_check d) _ (λ e _. only_and _ _ _ (only_must _ _ WrongEdge e refl) (λ _. only_must _ _ UnknownKind e refl))
  own (suc (suc (suc (suc (suc (suc (suc (suc (suc k))))))))) g = λ r e. absurd (good_bad e)

  -- so number k is given exactly if the stages below its own give nothing, and its own gives it
  deck_given : (k : Reason) (p i : ℕ) → i < 9 → home (number_of k) ≡ i → (deck_check d ≡ refused k p) ↔ ((up_to d i ≡ Good) × (stage d i ≡ refused k p))
  deck_given k p i h at = rw staged (there, λ g. scan_bad (stage d) 9 i h g.0 g.1)
    where
      there : up_to d 9 ≡ refused k p → (up_to d i ≡ Good) × (stage d i ≡ refused k p)
      there e =
          let l = (scan_lowest (stage d) 9 _).0 e in
          let g = (scan_good (stage d) l.index).1 l.good in
          let j = sym (own l.index g _ l.bad) ∙ at in
          (rw j at g, rw j at l.bad)

  deck_only : Only (λ r. home (number_of r.reason) < 9) (deck_check d)
  deck_only r e =
      let l = (scan_lowest (stage d) 9 r).0 (sym staged ∙ e) in
      let h = own l.index ((scan_good (stage d) l.index).1 l.good) r l.bad in
      omega (arith, l.below)

  module _ (rules edges : ℕ) where
    rooms : Only (λ r. r.reason ≡ TooShort) (room_check 3 (3 * word_at d 0 4) rules and_then room_check 4 (3 * word_at d 0 5) edges)
    unfolding room_check
    rooms = only_and _ _ _ (only_must _ _ TooShort 3 refl) (λ _. only_must _ _ TooShort 4 refl)

    given : (k : Reason) (p i : ℕ) → number_of k < 10 → i < 9 → home (number_of k) ≡ i → (read_check d rules edges ≡ refused k p) ↔ ((up_to d i ≡ Good) × (stage d i ≡ refused k p))
    unfolding read_check
    given k p i l h at = Iff.trans (and_first (deck_check d) _ k p (λ r e is. omega (arith, ap number_of (sym (rooms r e) ∙ is)))) (deck_given k p i h at)

-- no number above 10 is the reader's
pub given_only : (d : List ℕ) (rules edges : ℕ) → Only (λ r. (number_of r.reason) ≤ 10) (read_check d rules edges)
unfolding read_check
given_only d rules edges = only_and _ (deck_check d) _ (λ r e. small (number_of r.reason) (deck_only d r e)) (λ _ r e. omega (arith, ap number_of (rooms d rules edges r e)))
  where
    small : (n : ℕ) → home n < 9 → n ≤ 10
    small n h =
        cases (eqb n 3)
        (λ t. omega (arith, eqb-true n 3 t))
        (λ f. cases (eqb n 9) (λ t. omega (arith, eqb-true n 9 t)) (λ g. omega (arith, rw (f, g) at h)))

-- ---- place by place

-- p is the lowest index below n that is not right, and has this fault
pub record LowestFault (Right Fault : ℕ → Type 0) (n p : ℕ) : Type 0 where
  pub below : p < n
  pub fault : Fault p
  pub rest : (i : ℕ) → i < p → Right i

scan_fault :
    (c : ℕ → Check) (Right Fault : ℕ → Type 0) (n : ℕ) (k : Reason) (p : ℕ) →
    ((i : ℕ) → (c i ≡ Good) ↔ Right i) →
    ((i : ℕ) → (c i ≡ refused k p) ↔ (Fault i × (p ≡ i))) →
    (scan c n ≡ refused k p) ↔ LowestFault Right Fault n p
scan_fault c Right Fault n k p right fault = (there, back)
  where
    there : scan c n ≡ refused k p → LowestFault Right Fault n p
    there e =
        let l = (scan_lowest c n _).0 e in
        let f = (fault l.index).0 l.bad in
        record {
          below = omega (arith, l.below, f.1);
          fault = rw f.1 f.0;
          rest = λ i h. (right i).0 (l.good i (omega (arith, f.1)));
        }

    back : LowestFault Right Fault n p → scan c n ≡ refused k p
    back f = scan_bad c n p f.below ((scan_good c p).1 (λ i h. (right i).1 (f.rest i h))) ((fault p).1 (f.fault, refl))

-- two tests at each place, as of sum and order, of nodes and kind
module _ (a b : ℕ → Bool) (n : ℕ) (k l : Reason) (p : ℕ) (apart : k ≢ l) where
  abbrev two : ℕ → Check
  two i = must (a i) k i and_then must (b i) l i

  abbrev Both : ℕ → Type 0
  Both i = (a i ≡ true) × (b i ≡ true)

  two_good : (i : ℕ) → (two i ≡ Good) ↔ Both i
  two_good i = Iff.trans (and_good (must (a i) k i) (must (b i) l i)) (Iff.and (must_good (a i) k i) (must_good (b i) l i))

  two_first : (scan two n ≡ refused k p) ↔ LowestFault Both (λ i. a i ≡ false) n p
  two_first =
      scan_fault two Both _ n k p two_good
      (λ i. Iff.trans (and_first (must (a i) k i) _ k p (only_must _ (b i) l i (λ e. apart (sym e)))) (must_given (a i) k i p))

  two_second : (scan two n ≡ refused l p) ↔ LowestFault Both (λ i. (a i ≡ true) × (b i ≡ false)) n p
  two_second =
      scan_fault two Both _ n l p two_good (λ i.
      let m = and_second (must (a i) k i) (must (b i) l i) l p (only_must _ (a i) k i apart) in
      let t = must_good (a i) k i in
      let f = must_given (b i) l i p in (
        λ e. let g = m.0 e in let h = f.0 g.1 in ((t.0 g.0, h.0), h.1),
        λ h. m.1 (t.1 h.0.0, f.1 (h.0.1, h.1)),
      ))

-- ---- the numbers

-- the test of header word k: its limits, and of word 6, the queried nonterminal, that it is below the nonterminals
abbrev pub right_number : List ℕ → ℕ → Bool
right_number d k = cond (eqb k 6) (ltb (word_at d 0 6) (word_at d 0 1)) (in_limits k (word_at d 0 k))

-- the test of rule r
abbrev pub right_record : List ℕ → ℕ → Bool
right_record d r = right_rule (deck_numbers d) (record_at d 3 r 0) (record_at d 3 r 1) (record_at d 3 r 2)

-- a block whose check, number and type order are right; an edge whose nodes are in range and whose kind is in the map
abbrev pub RightBlock : List ℕ → ℕ → Type 0
RightBlock d b = (right_sum d b ≡ true) × (right_order d b ≡ true)

abbrev pub RightEdge : List ℕ → ℕ → Type 0
RightEdge d e = (right_nodes d e ≡ true) × (right_kind d e ≡ true)

header_each : (d : List ℕ) → header_check d ≡ scan (λ k. must (right_number d k) WrongNumber k) 7
unfolding header_check scan
header_each d = refl

-- past the frames, a block is refused as WrongCount or not at all
fills_each : (d : List ℕ) → up_to d 5 ≡ Good → scan (fill_check d) (blocks d) ≡ scan (λ b. must (right_fill d b) WrongCount b) (blocks d)
fills_each d g =
    let frames = (scan_good (frame_check d) _).0 ((scan_good (stage d) 5).0 g 2 (omega arith)) in
    scan_same _ _ (blocks d) (λ b h. fill_is d b (framed d b (frames b h)))

fill_stage : (d : List ℕ) (p : ℕ) → up_to d 5 ≡ Good
    → (stage d 5 ≡ refused WrongCount p)
    ↔ (LowestWrong (right_fill d) (blocks d) p
    ⊎ (((b : ℕ) → b < blocks d → right_fill d b ≡ true) × (right_totals d ≡ false) × (p ≡ 0)))
unfolding totals_check
fill_stage d p g =
    let x = scan (λ b. must (right_fill d b) WrongCount b) (blocks d) in
    let w = scan_must (right_fill d) WrongCount (blocks d) p in
    let t = must_given (right_totals d) WrongCount 0 p in
    let s = and_bad x (must (right_totals d) WrongCount 0) (record { reason = WrongCount; place = p }) in
    let a = scan_good (λ b. must (right_fill d b) WrongCount b) (blocks d) in
    rw (fills_each d g) (
      λ e. ⊎_elim (λ f. inl (w.0 f)) (λ f. let h = t.0 f.1 in inr (λ b l. (must_good _ WrongCount b).0 (a.0 f.0 b l), h.0, h.1)) (s.0 e),
      λ e. s.1 (⊎_elim (λ f. inl (w.1 f)) (λ f. inr (a.1 (λ b l. (must_good _ WrongCount b).1 (f.0 b l)), t.1 (f.1, f.2))) e),
    )

module _ (d : List ℕ) (rules edges p : ℕ) where
  -- WrongSize
  pub given_1 : (read_check d rules edges ≡ refused WrongSize p) ↔ ((right_size d ≡ false) × (p ≡ 0))
  unfolding size_check scan ◌and_then◌
  given_1 =
      let g = given d rules edges WrongSize p 1 (omega arith) (omega arith) refl in
      let m = must_given (right_size d) WrongSize 0 p in
      (λ e. m.0 (g.0 e).1, λ h. g.1 (refl, m.1 h))

  -- WrongSum
  pub given_2 : (read_check d rules edges ≡ refused WrongSum p)
      ↔ ((up_to d 2 ≡ Good) × LowestFault (RightBlock d) (λ b. right_sum d b ≡ false) (blocks d) p)
  given_2 =
      Iff.trans (given d rules edges WrongSum p 2 (omega arith) (omega arith) refl)
      (Iff.and Iff.rfl (two_first (right_sum d) (right_order d) (blocks d) WrongSum WrongOrder p (differs (omega arith))))

  -- WrongOrder; the block's sum is right
  pub given_3 : (read_check d rules edges ≡ refused WrongOrder p)
      ↔ ((up_to d 2 ≡ Good) × LowestFault (RightBlock d) (λ b. (right_sum d b ≡ true) × (right_order d b ≡ false)) (blocks d) p)
  given_3 =
      Iff.trans (given d rules edges WrongOrder p 2 (omega arith) (omega arith) refl)
      (Iff.and Iff.rfl (two_second (right_sum d) (right_order d) (blocks d) WrongSum WrongOrder p (differs (omega arith))))

  -- WrongNumber
  pub given_4 : (read_check d rules edges ≡ refused WrongNumber p) ↔ ((up_to d 4 ≡ Good) × LowestWrong (right_number d) 7 p)
  given_4 =
      Iff.trans (given d rules edges WrongNumber p 4 (omega arith) (omega arith) refl)
      (Iff.and Iff.rfl (rw (header_each d) (scan_must (right_number d) WrongNumber 7 p)))

  -- WrongCount: of a block, or all blocks are right and the totals differ from the header's
  pub given_5 : (read_check d rules edges ≡ refused WrongCount p)
      ↔ ((up_to d 5 ≡ Good)
      × (LowestWrong (right_fill d) (blocks d) p
      ⊎ (((b : ℕ) → b < blocks d → right_fill d b ≡ true) × (right_totals d ≡ false) × (p ≡ 0))))
  given_5 =
      let g = given d rules edges WrongCount p 5 (omega arith) (omega arith) refl in
      (λ e. let h = g.0 e in (h.0, (fill_stage d p h.0).0 h.1), λ h. g.1 (h.0, (fill_stage d p h.0).1 h.1))

  -- WrongEntry
  pub given_6 : (read_check d rules edges ≡ refused WrongEntry p) ↔ ((up_to d 6 ≡ Good) × LowestWrong (right_entry d) (word_at d 0 3) p)
  unfolding entry_check
  given_6 =
      Iff.trans (given d rules edges WrongEntry p 6 (omega arith) (omega arith) refl)
      (Iff.and Iff.rfl (scan_must (right_entry d) WrongEntry (word_at d 0 3) p))

  -- WrongRule
  pub given_7 : (read_check d rules edges ≡ refused WrongRule p) ↔ ((up_to d 7 ≡ Good) × LowestWrong (right_record d) (word_at d 0 4) p)
  unfolding rule_record_check
  given_7 =
      Iff.trans (given d rules edges WrongRule p 7 (omega arith) (omega arith) refl)
      (Iff.and Iff.rfl (scan_must (right_record d) WrongRule (word_at d 0 4) p))

  -- WrongEdge
  pub given_8 : (read_check d rules edges ≡ refused WrongEdge p)
      ↔ ((up_to d 8 ≡ Good) × LowestFault (RightEdge d) (λ e. right_nodes d e ≡ false) (word_at d 0 5) p)
  unfolding edge_record_check
  given_8 =
      Iff.trans (given d rules edges WrongEdge p 8 (omega arith) (omega arith) refl)
      (Iff.and Iff.rfl (two_first (right_nodes d) (right_kind d) (word_at d 0 5) WrongEdge UnknownKind p (differs (omega arith))))

  -- UnknownKind; the edge's nodes are in range (Unknown says it of the map's entries)
  pub given_9 : (read_check d rules edges ≡ refused UnknownKind p)
      ↔ ((up_to d 8 ≡ Good) × LowestFault (RightEdge d) (λ e. (right_nodes d e ≡ true) × (right_kind d e ≡ false)) (word_at d 0 5) p)
  unfolding edge_record_check
  given_9 =
      Iff.trans (given d rules edges UnknownKind p 8 (omega arith) (omega arith) refl)
      (Iff.and Iff.rfl (two_second (right_nodes d) (right_kind d) (word_at d 0 5) WrongEdge UnknownKind p (differs (omega arith))))

  -- TooShort: the rule list, or it has room and the edge list has not
  pub given_10 : (read_check d rules edges ≡ refused TooShort p)
      ↔ ((deck_check d ≡ Good)
      × (((rules < 3 * word_at d 0 4) × (p ≡ 3)) ⊎ ((3 * word_at d 0 4 ≤ rules) × (edges < 3 * word_at d 0 5) × (p ≡ 4))))
  unfolding read_check
  given_10 =
      let x = room_check 3 (3 * word_at d 0 4) rules in
      let y = room_check 4 (3 * word_at d 0 5) edges in
      let g = and_second (deck_check d) (x and_then y) TooShort p (λ r e is. omega (arith, rw is at (deck_only d r e))) in
      let s = and_bad x y (record { reason = TooShort; place = p }) in
      let a = room_given 3 (3 * word_at d 0 4) rules p in
      let b = room_given 4 (3 * word_at d 0 5) edges p in
      let r = room_good 3 (3 * word_at d 0 4) rules in
      Iff.trans g (Iff.and Iff.rfl (
        λ e. ⊎_elim (λ f. inl (a.0 f)) (λ f. let h = b.0 f.1 in inr (r.0 f.0, h.0, h.1)) (s.0 e),
        λ e. s.1 (⊎_elim (λ f. inl (a.1 f)) (λ f. inr (r.1 f.0, b.1 (f.1, f.2))) e),
      ))
