-- Each refusal of the lists 'given exactly when': all before it pass, and its place is the lowest wrong one. Assumes nothing.
use mathlib.Core.Path.{◌≡◌, refl, sym, ap, ◌∙◌}
use mathlib.Core.List.{List, [], ◌∷◌}
use mathlib.Core.Logic.Iff
use mathlib.Core.Logic.{◌≢◌, ◌↔◌}
use mathlib.Core.Bool.{Bool}
use Prim.Native.Nat.{ℕ, ◌/◌, ◌%◌, ◌≤◌, ◌<◌}
use native.Mathlib.Omega.{arith}
use lib.ListN.{length, get_or}
use lib.Dec.{eqb}
use Rattle.words.specs.Refusals.{Refusal, refused, must, ◌and_then◌, scan, Check, Good, number_of}
use Rattle.words.proofs.Refusals.{differs, and_assoc, Only, only_must, only_and, only_scan, and_first, and_second, LowestWrong, scan_must}
use Rattle.words.specs.declared.Reason.{Reason}
use Rattle.words.specs.declared.Reason.TheVariants.{WrongNumber, WrongCount, WrongRule, WrongEdge}
use Rattle.meaning.specs.Net.{word}
use Rattle.numbers.specs.Numbers.{in_limits, limits_check}
use Rattle.lists.specs.Lists.{right_rule, right_edge, whole_check, rule_check, edge_check, lists_check}
use Rattle.numbers.specs.declared.Numbers.{Numbers}
use Rattle.numbers.proofs.Right.{few_records}

-- ---- one refusal among others

-- a check of one number, place by place: its refusals have that number, and places below the count
abbrev each : (ℕ → Bool) → Reason → ℕ → Check
each right k n = scan (λ i. must (right i) k i) n

fitting : (P : Refusal → Type 0) (right : ℕ → Bool) (k : Reason) (n : ℕ)
    → ((p : ℕ) → p < n → P (record { reason = k; place = p })) → Only P (each right k n)
fitting P right k n f = only_scan P _ n (λ i h. only_must P (right i) k i (f i h))

other : (right : ℕ → Bool) (k : Reason) (n : ℕ) (l : Reason) → k ≢ l → Only (λ r. r.reason ≢ l) (each right k n)
other right k n l h = fitting _ right k n (λ p _. h)

-- between checks that have other numbers, it refuses exactly if those before it pass and its place is the lowest wrong one
module _ (x y : Check) (right : ℕ → Bool) (k : Reason) (n p : ℕ) where
  amid : Only (λ r. r.reason ≢ k) x → Only (λ r. r.reason ≢ k) y
      → (x and_then each right k n and_then y ≡ refused k p) ↔ ((x ≡ Good) × LowestWrong right n p)
  amid hx hy =
      let a = and_second x (each right k n and_then y) k p hx in
      let b = and_first (each right k n) y k p hy in
      let c = scan_must right k n p in
      (λ e. let z = a.0 e in (z.0, c.0 (b.0 z.1)), λ h. a.1 (h.0, b.1 (c.1 h.1)))

-- ---- the lists

module _ (numbers : Numbers) (rules edges : List ℕ) where
  -- the tests of number 5 by list, of 4 by header word (an engine has no map, so no entries), of 7 by rule, of 8 by edge
  abbrev pub whole : ℕ → Bool
  whole k = eqb (get_or (length rules ∷ length edges ∷ []) k 0 % 3) 0

  abbrev pub limited : ℕ → Bool
  limited k =
      in_limits k
      (get_or (numbers.nodes ∷ numbers.nonterminals ∷ numbers.labels ∷ 0 ∷ length rules / 3 ∷ length edges / 3 ∷ []) k 0)

  abbrev pub ruled : ℕ → Bool
  ruled r = right_rule numbers (word rules r 0) (word rules r 1) (word rules r 2)

  abbrev pub edged : ℕ → Bool
  edged e = right_edge numbers (word edges e 0) (word edges e 1) (word edges e 2)

  abbrev C5 : Check
  C5 = each whole WrongCount 2

  abbrev C4 : Check
  C4 = each limited WrongNumber 6

  abbrev C7 : Check
  C7 = each ruled WrongRule (length rules / 3)

  abbrev C8 : Check
  C8 = each edged WrongEdge (length edges / 3)

  whole_each : whole_check (length rules) (length edges) ≡ C5
  unfolding whole_check scan ◌and_then◌
  whole_each = refl

  limits_each : limits_check numbers (length rules) (length edges) ≡ C4
  unfolding limits_check scan must in_limits ◌and_then◌
  limits_each = sym (simp and_assoc)

  lists_each : lists_check numbers rules edges ≡ C5 and_then C4 and_then C7 and_then C8
  unfolding lists_check rule_check edge_check
  lists_each = rw (whole_each, limits_each)

  -- no refusal of number l before C7, and none from C7 on
  before : (l : Reason) → WrongCount ≢ l → WrongNumber ≢ l → Only (λ r. r.reason ≢ l) (C5 and_then C4)
  before l h₅ h₄ = only_and _ C5 C4 (other whole WrongCount 2 l h₅) (λ _. other limited WrongNumber 6 l h₄)

  behind : (l : Reason) → WrongRule ≢ l → WrongEdge ≢ l → Only (λ r. r.reason ≢ l) (C7 and_then C8)
  behind l h₇ h₈ = only_and _ C7 C8 (other ruled WrongRule _ l h₇) (λ _. other edged WrongEdge _ l h₈)

  module _ (p : ℕ) where
    -- refusal 5, WrongCount: the length of a list is not a multiple of 3
    pub given_5 : (lists_check numbers rules edges ≡ refused WrongCount p) ↔ LowestWrong whole 2 p
    given_5 =
        rw lists_each
        (Iff.trans
        (and_first C5 _ WrongCount p
        (only_and _ C4 _ (other limited WrongNumber 6 WrongCount (differs (omega arith))) (λ _. behind WrongCount (differs (omega arith)) (differs (omega arith)))))
        (scan_must whole WrongCount 2 p))

    -- refusal 4, WrongNumber: a number or a count is outside its limits
    pub given_4 : (lists_check numbers rules edges ≡ refused WrongNumber p)
        ↔ ((whole_check (length rules) (length edges) ≡ Good) × LowestWrong limited 6 p)
    given_4 =
        rw (lists_each, whole_each)
        (amid C5 (C7 and_then C8) limited WrongNumber 6 p (other whole WrongCount 2 WrongNumber (differs (omega arith))) (behind WrongNumber (differs (omega arith)) (differs (omega arith))))

    -- refusal 7, WrongRule: a nonterminal or label of a rule is out of range
    pub given_7 : (lists_check numbers rules edges ≡ refused WrongRule p)
        ↔ ((whole_check (length rules) (length edges) and_then limits_check numbers (length rules) (length edges) ≡ Good)
        × LowestWrong ruled (length rules / 3) p)
    given_7 =
        rw (lists_each, whole_each, limits_each, ← and_assoc C5 C4 (C7 and_then C8))
        (amid (C5 and_then C4) C8 ruled WrongRule _ p (before WrongRule (differs (omega arith)) (differs (omega arith))) (other edged WrongEdge _ WrongRule (differs (omega arith))))

    -- refusal 8, WrongEdge: a node or the label of an edge is out of range
    pub given_8 : (lists_check numbers rules edges ≡ refused WrongEdge p)
        ↔ (((whole_check (length rules) (length edges) and_then limits_check numbers (length rules) (length edges))
        and_then scan (rule_check numbers rules) (length rules / 3) ≡ Good)
        × LowestWrong edged (length edges / 3) p)
    unfolding rule_check
    given_8 =
        rw (lists_each, whole_each, limits_each, ← and_assoc C5 C4 (C7 and_then C8), ← and_assoc (C5 and_then C4) C7 C8)
        (Iff.trans
        (and_second _ C8 WrongEdge p
        (only_and _ (C5 and_then C4) C7 (before WrongEdge (differs (omega arith)) (differs (omega arith))) (λ _. other ruled WrongRule _ WrongEdge (differs (omega arith)))))
        (Iff.and Iff.rfl (scan_must edged WrongEdge _ p)))

  few : C4 ≡ Good → (length rules / 3 ≤ 256) × (length edges / 3 ≤ 4096)
  few g = few_records numbers (length rules) (length edges) (limits_each ∙ g)

  -- no other number is given, and every place is below 4,096
  pub given_only : Only (λ r. (number_of r.reason ≤ 8) × (r.place < 4096)) (lists_check numbers rules edges)
  given_only =
      rw lists_each
      (only_and _ C5 _ (fitting _ whole WrongCount 2 (λ p h. omega arith))
      (λ _. only_and _ C4 _ (fitting _ limited WrongNumber 6 (λ p h. omega arith))
      (λ g. only_and _ C7 _ (fitting _ ruled WrongRule _ (λ p h. omega (arith, few g)))
      (λ _. fitting _ edged WrongEdge _ (λ p h. omega (arith, few g))))))

  -- so a number above 8 is an engine call's own
  pub lists_other : (l : Reason) → 8 < number_of l → Only (λ r. r.reason ≢ l) (lists_check numbers rules edges)
  lists_other l h r e same = let g = given_only r e in omega (arith, ap number_of same)
