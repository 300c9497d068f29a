-- Laws of refusals in an order: 'given exactly when', and 'the lowest place'. Assumes nothing.
use mathlib.Core.Bool.{Bool, true, false, ◌&&◌, true≢false, false≢true}
use mathlib.Core.Path.{◌≡◌, refl, sym, ap, subst, ◌∙◌}
use mathlib.Core.Logic.{◌↔◌, ◌⊎◌, ◌≢◌, inl, inr, ⊎_elim}
use Prim.Native.Nat.{ℕ, zero, suc, ◌+◌, ◌<◌}
use native.Mathlib.Nat.{not-suc-le-zero, le_of_suc-le-suc, eq-or-lt_of_le}
use native.Mathlib.Numerals.{add-one}
use native.Mathlib.Omega.{arith}
use Rattle.std.specs.Prelude.{Result, Ok, Err}
use Rattle.std.specs.Result.{IsErrAnd}
use Rattle.std.proofs.lemmas.Result.{err_from_is_err_and}
use Rattle.words.specs.Refusals.{number_of, CheckFor, Good, refused, must, ◌and_then◌, scan}
use Rattle.words.specs.declared.Reason.{Reason}
use Rattle.words.specs.declared.Refusal.{Refusal as RefusalFor}

-- ---- two answers that are equal say the same

pub good_bad : {R : Type 0} {r : RefusalFor R} → ◌≡◌ {A = CheckFor R} Good (Err r) → ⊥
good_bad {r} e = let z : ◌≡◌ {A = ℕ} 0 1 = cc in omega arith

pub bad_same : {R : Type 0} {r s : RefusalFor R} → ◌≡◌ {A = CheckFor R} (Err r) (Err s) → r ≡ s
bad_same {r} {s} e = cc

module _ {R : Type 0} {k l : R} {p q : ℕ} (e : refused k p ≡ refused l q) where
  pub same_place : p ≡ q
  same_place = ap (λ (r : RefusalFor R). r.place) (bad_same e)

-- reasons of other numbers are other reasons
pub differs : {k l : Reason} → number_of k ≢ number_of l → k ≢ l
differs h e = h (ap number_of e)

-- what a `?` hands on is the refusal that it met
pub handed_on : {R T : Type 0} {e : RefusalFor R} (r : Result T (RefusalFor R)) → IsErrAnd r (λ y. y ≡ e) → r ≡ Err e
handed_on {e = e} r h = let p = err_from_is_err_and r h in p.1 ∙ ap Err p.2

-- ---- two tests

pub both : (a b : Bool) → (a && b ≡ true) ↔ ((a ≡ true) × (b ≡ true))
both true b = (λ e. (refl, e), λ h. h.1)
both false b = (λ e. absurd (false≢true e), λ h. h.0)

-- ---- one check

pub must_good : {R : Type 0} (b : Bool) (k : R) (p : ℕ) → (must b k p ≡ Good) ↔ (b ≡ true)
unfolding must
must_good true k p = (λ e. refl, λ e. refl)
must_good false k p = (λ e. absurd (good_bad (sym e)), λ t. absurd (false≢true t))

pub must_bad : {R : Type 0} (b : Bool) (k : R) (p : ℕ) (r : RefusalFor R) → (must b k p ≡ Err r) ↔ ((b ≡ false) × (refused k p ≡ Err r))
unfolding must
must_bad true k p r = (λ e. absurd (good_bad e), λ g. absurd (true≢false g.0))
must_bad false k p r = (λ e. (refl, e), λ g. g.1)

-- ---- two checks, one after the other

pub and_next : {R : Type 0} {x y : CheckFor R} → x ≡ Good → x and_then y ≡ y
unfolding ◌and_then◌
and_next e = rw e

pub and_stop : {R : Type 0} {x : CheckFor R} (y : CheckFor R) {r : RefusalFor R} → x ≡ Err r → x and_then y ≡ Err r
unfolding ◌and_then◌
and_stop y e = rw e

pub and_assoc : {R : Type 0} (x y z : CheckFor R) → (x and_then y) and_then z ≡ x and_then y and_then z
unfolding ◌and_then◌
and_assoc (Ok _) y z = refl
and_assoc (Err r) y z = refl

pub and_good : {R : Type 0} (x y : CheckFor R) → (x and_then y ≡ Good) ↔ ((x ≡ Good) × (y ≡ Good))
unfolding ◌and_then◌
and_good (Ok tt) y = (λ e. (refl, e), λ g. g.1)
and_good (Err r) y = (λ e. absurd (good_bad (sym e)), λ g. absurd (good_bad (sym g.0)))

pub and_bad : {R : Type 0} (x y : CheckFor R) (r : RefusalFor R) → (x and_then y ≡ Err r) ↔ ((x ≡ Err r) ⊎ ((x ≡ Good) × (y ≡ Err r)))
unfolding ◌and_then◌
and_bad (Ok tt) y r = (λ e. inr (refl, e), ⊎_elim (λ e. absurd (good_bad e)) (λ g. g.1))
and_bad (Err s) y r = (λ e. inl e, ⊎_elim (λ e. e) (λ g. absurd (good_bad (sym g.0))))

-- ---- the checks c 0, .., c (n - 1)

-- good exactly if every check is
pub scan_good : {R : Type 0} (c : ℕ → CheckFor R) (n : ℕ) → (scan c n ≡ Good) ↔ ((i : ℕ) → i < n → c i ≡ Good)
unfolding scan
scan_good c zero = (λ e i h. absurd (not-suc-le-zero h), λ all. refl)
scan_good c (suc n) =
    let below = scan_good c n in
    let both = and_good (scan c n) (c n) in (
      λ e i h. ⊎_elim (λ q. rw q (both.0 e).1) (below.0 (both.0 e).0 i) (eq-or-lt_of_le (le_of_suc-le-suc h)),
      λ all. both.1 (below.1 (λ i h. all i (omega arith)), all n (omega arith)),
    )

-- the lowest index whose check refuses, and its refusal
pub record Lowest {R : Type 0} (c : ℕ → CheckFor R) (n : ℕ) (r : RefusalFor R) : Type 0 where
  pub index : ℕ
  pub below : index < n
  pub good : (i : ℕ) → i < index → c i ≡ Good
  pub bad : c index ≡ Err r

lowest : {R : Type 0} (c : ℕ → CheckFor R) (n : ℕ) (r : RefusalFor R) → scan c n ≡ Err r → Lowest c n r
unfolding scan
lowest c zero r e = absurd (good_bad e)
lowest c (suc n) r e =
    ⊎_elim
    (λ b. let l = lowest c n r b in record { index = l.index; below = omega arith; good = l.good; bad = l.bad })
    (λ g. record { index = n; below = omega arith; good = (scan_good c n).0 g.0; bad = g.1 })
    ((and_bad (scan c n) (c n) r).0 e)

-- one check more
pub scan_more : {R : Type 0} (c : ℕ → CheckFor R) (n : ℕ) → scan c n ≡ Good → c n ≡ Good → scan c (n + 1) ≡ Good
unfolding scan
scan_more c n e g = rw add-one (and_next e ∙ g)

-- the first refusal stays
pub scan_bad : {R : Type 0} (c : ℕ → CheckFor R) (n i : ℕ) {r : RefusalFor R} → i < n → scan c i ≡ Good → c i ≡ Err r → scan c n ≡ Err r
unfolding scan
scan_bad c zero i h e b = absurd (not-suc-le-zero h)
scan_bad c (suc n) i h e b =
    ⊎_elim (λ q. rw (← q) (and_next e ∙ b)) (λ l. and_stop _ (scan_bad c n i l e b)) (eq-or-lt_of_le (le_of_suc-le-suc h))

-- a refusal exactly if it is the lowest one
pub scan_lowest : {R : Type 0} (c : ℕ → CheckFor R) (n : ℕ) (r : RefusalFor R) → (scan c n ≡ Err r) ↔ Lowest c n r
scan_lowest c n r =
    (lowest c n r, λ l. scan_bad c n l.index l.below ((scan_good c l.index).1 l.good) l.bad)

-- ---- what every refusal of a check meets

abbrev pub Only : {R : Type 0} → (RefusalFor R → Type 0) → CheckFor R → Type 0
Only {R} P c = (r : RefusalFor R) → c ≡ Err r → P r

module _ {R : Type 0} (P : RefusalFor R → Type 0) where
  pub only_must : (b : Bool) (k : R) (p : ℕ) → P (record { reason = k; place = p }) → Only P (must b k p)
  only_must b k p h r e = subst P (bad_same ((must_bad b k p r).0 e).1) h

  pub only_and : (x y : CheckFor R) → Only P x → (x ≡ Good → Only P y) → Only P (x and_then y)
  only_and x y f g r e = ⊎_elim (f r) (λ z. g z.0 r z.1) ((and_bad x y r).0 e)

  pub only_scan : (c : ℕ → CheckFor R) (n : ℕ) → ((i : ℕ) → i < n → Only P (c i)) → Only P (scan c n)
  only_scan c n f r e = let l = (scan_lowest c n r).0 e in f l.index l.below r l.bad

-- ---- 'given exactly when'

-- one check refuses at its place exactly if its test fails
pub must_given : {R : Type 0} (b : Bool) (k : R) (p q : ℕ) → (must b k p ≡ refused k q) ↔ ((b ≡ false) × (q ≡ p))
must_given b k p q = (
  λ e. let m = (must_bad b k p _).0 e in (m.0, sym (same_place m.1)),
  λ h. (must_bad b k p _).1 (h.0, rw h.1),
)

-- a check before others of its number refuses at its own place where its test fails; otherwise they decide
pub must_next : {R : Type 0} (b : Bool) (k : R) (q : ℕ) (y : CheckFor R) (p : ℕ)
    → (must b k q and_then y ≡ refused k p) ↔ (((b ≡ false) × (p ≡ q)) ⊎ ((b ≡ true) × (y ≡ refused k p)))
unfolding must ◌and_then◌
must_next true k q y p = (λ e. inr (refl, e), ⊎_elim (λ h. absurd (true≢false h.0)) (λ h. h.1))
must_next false k q y p = (λ e. inl (refl, sym (same_place e)), ⊎_elim (λ h. rw h.1) (λ h. absurd (false≢true h.0)))

-- three checks of one number refuse at the place of the first whose test fails
pub three_given : {R : Type 0} {a b c : Bool} {A A' B B' C' : Type 0} (k : R) (x y z p : ℕ)
    → ((a ≡ true) ↔ A) → ((a ≡ false) ↔ A') → ((b ≡ true) ↔ B) → ((b ≡ false) ↔ B') → ((c ≡ false) ↔ C')
    → (must a k x and_then must b k y and_then must c k z ≡ refused k p)
    ↔ ((A' × (p ≡ x)) ⊎ (A × B' × (p ≡ y)) ⊎ (A × B × C' × (p ≡ z)))
three_given {a} {b} {c} k x y z p tA fA tB fB fC =
    let u = must_next a k x (must b k y and_then must c k z) p in
    let v = must_next b k y (must c k z) p in
    let w = must_given c k z p in (
      λ e. ⊎_elim
          (λ h. inl (fA.0 h.0, h.1))
          (λ h. ⊎_elim
          (λ l. inr (inl (tA.0 h.0, fB.0 l.0, l.1)))
          (λ l. let m = w.0 l.1 in inr (inr (tA.0 h.0, tB.0 l.0, fC.0 m.0, m.1)))
          (v.0 h.1))
          (u.0 e),
      ⊎_elim
          (λ h. u.1 (inl (fA.1 h.0, h.1)))
          (⊎_elim
          (λ h. u.1 (inr (tA.1 h.0, v.1 (inl (fB.1 h.1, h.2)))))
          (λ h. u.1 (inr (tA.1 h.0, v.1 (inr (tB.1 h.1, w.1 (fC.1 h.2, h.3))))))),
    )

-- where only the first of two checks has number k, and where only the second has it
module _ {R : Type 0} (x y : CheckFor R) (k : R) (p : ℕ) where
  pub and_first : Only (λ r. r.reason ≢ k) y → (x and_then y ≡ refused k p) ↔ (x ≡ refused k p)
  and_first none =
      (λ e. ⊎_elim (λ b. b) (λ z. absurd (none _ z.1 refl)) ((and_bad x y _).0 e), λ b. and_stop y b)

  -- also where the first has it at other places
  pub and_past : (x ≡ refused k p → ⊥) → (x and_then y ≡ refused k p) ↔ ((x ≡ Good) × (y ≡ refused k p))
  and_past none = (λ e. ⊎_elim (λ b. absurd (none b)) (λ z. z) ((and_bad x y _).0 e), λ z. and_next z.0 ∙ z.1)

  pub and_second : Only (λ r. r.reason ≢ k) x → (x and_then y ≡ refused k p) ↔ ((x ≡ Good) × (y ≡ refused k p))
  and_second none = and_past (λ b. none _ b refl)

-- p is the lowest of the indices below n that are not right
pub record LowestWrong (right : ℕ → Bool) (n p : ℕ) : Type 0 where
  pub below : p < n
  pub wrong : right p ≡ false
  pub rest : (i : ℕ) → i < p → right i ≡ true

pub scan_must : {R : Type 0} (right : ℕ → Bool) (k : R) (n p : ℕ) → (scan (λ i. must (right i) k i) n ≡ refused k p) ↔ LowestWrong right n p
scan_must {R} right k n p = (λ e. given (lowest c n _ e), λ w. scan_bad c n p w.below ((scan_good c p).1 (λ i h. (must_good _ k i).1 (w.rest i h))) ((must_bad _ k p _).1 (w.wrong, refl)))
  where
    c : ℕ → CheckFor R
    c i = must (right i) k i

    given : Lowest c n (record { reason = k; place = p }) → LowestWrong right n p
    given l =
        let b = (must_bad (right l.index) k l.index _).0 l.bad in
        let e = same_place b.1 in
        record {
          below = omega (arith, l.below);
          wrong = rw e at b.0;
          rest = λ i h. (must_good _ k i).0 (l.good i (omega arith));
        }

-- what a chain of `?` over checks needs
pub ruleset refusing = (and_next, and_stop, handed_on)
