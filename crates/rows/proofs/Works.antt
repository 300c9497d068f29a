-- Products taken in one after the other: what `join_rule`, `round` and `close` leave. Assumes nothing.
use mathlib.Core.Path.{◌≡◌, refl, sym, ◌∙◌}
use mathlib.Core.List.{List}
use mathlib.Core.Bool.{Bool, true, false, ◌||◌}
use Prim.Native.Nat.{ℕ, zero, suc, ◌+◌, ◌-◌, ◌*◌, ◌/◌, ◌^◌, ◌≤◌, ◌<◌}
use native.Mathlib.Omega.{arith}
use native.Mathlib.Nat.{mul-le-mul_right, le_of_lt}
use borrow.Author.Count.{below_more}
use borrow.Author.Tests.{eqb-true, eqb-false}
use lib.ListN.{length, get_or}
use lib.Arith.{digits_lt}
use Rattle.meaning.specs.Net.{PairRule}
use Rattle.meaning.specs.Records.{rule_at}
use Rattle.meaning.specs.declared.Rule.TheVariants.{Label, Pair}
use Rattle.meaning.proofs.Rules.{label_words, pair_words}
use Rattle.meaning.specs.Table.{total}
use Rattle.numbers.specs.declared.Numbers.{Numbers}
use Rattle.rows.specs.Rounds.{RowsGrown, none, more, PairStep, Full, Products, AllProducts, Went, JoinFits, ProductTaken, Worked, RowsClosed, RowsReady}
use Rattle.rows.proofs.Grows.{grown_then, grown_length, ready_grown}

-- ---- a pair rule's rows are there

-- a pair rule, as code reads it
pub pair_rule : {rules : List ℕ} {r A B C : ℕ} → Pair A B C ≡ rule_at rules r → r < length rules / 3 → PairRule rules r A B C
pair_rule e h = let w = pair_words e in record { inside = h; head = w.head; left = w.left; right = w.right; pair = eqb-false _ _ w.pair }

module _ (numbers : Numbers) {rules rs : List ℕ} {r A B C : ℕ} (ready : RowsReady numbers rules rs) (rule : PairRule rules r A B C) where
  abbrev n : ℕ
  n = numbers.nodes

  pub bases_there : (A * n ≤ length rs) × (B * n ≤ length rs) × (C * n ≤ length rs)
  bases_there =
      let m = ready.range r A B C rule in
      let long = ready.long in (
        omega (arith, mul-le-mul_right n (le_of_lt m.0)),
        omega (arith, mul-le-mul_right n (le_of_lt m.1)),
        omega (arith, mul-le-mul_right n (le_of_lt m.2)),
      )

  pub rows_there : {i : ℕ} → i < n → JoinFits rs (A * n + i) (B * n + i) (C * n)
  rows_there {i} from =
      let m = ready.range r A B C rule in
      let long = ready.long in
      record {
        head = omega (arith, digits_lt m.0 from);
        left = omega (arith, digits_lt m.1 from);
        right = λ k b. omega (arith, digits_lt m.2 (ready.clear B i k m.1 from b));
      }

-- ---- one part of a round after another

module _ (P Q R : List ℕ → Type 0) (rs rs' rs'' : List ℕ) (same : length rs' ≡ length rs) (both : P rs → Q rs → R rs) where
  -- after a part that answered b and one that answered c
  went_then : (b c : Bool) → Went b P rs rs' → Went c Q rs' rs'' → Went (b || c) R rs rs''
  went_then true true x y = omega (arith, rw same at y)
  went_then true false x y = rw y.0 x
  went_then false true x y = rw x.0 at y
  went_then false false x y = (y.0 ∙ x.0, both x.1 (rw x.0 at y.1))

module _ (P Q : List ℕ → Type 0) (rs rs' : List ℕ) where
  went_as : (b : Bool) → (P rs → Q rs) → Went b P rs rs' → Went b Q rs rs'
  went_as true f x = x
  went_as false f x = (x.0, f x.1)

-- the products of the rows below i
abbrev pub Upto : ℕ → ℕ → ℕ → ℕ → List ℕ → Type 0
Upto a b c i rs = (s : ℕ) → s < i → Full (a + s) (b + s) c rs

-- the products of the rules below r
abbrev pub Below : ℕ → List ℕ → ℕ → List ℕ → Type 0
Below n rules r rs = (s : ℕ) → s < r → Products n rules s rs

-- a label rule has no products
pub work_none : (n : ℕ) {rules rs : List ℕ} {r A x : ℕ} → Label A x ≡ rule_at rules r → Worked n rules (Products n rules r) rs false rs
work_none n e = let w = label_words e in record { grown = none; went = (refl, λ A B C i p. absurd (p.pair (eqb-true _ _ w.mark))) }

pub round_start : {n : ℕ} {rules rs : List ℕ} → Worked n rules (Below n rules 0) rs false rs
round_start = record { grown = none; went = (refl, λ s h. absurd (omega arith)) }

module _ (n : ℕ) {rules rs rs' : List ℕ} where
  module _ {r A B C : ℕ} (rule : PairRule rules r A B C) where
    -- one product more
    pub work_more : {rs'' : List ℕ} {i : ℕ} (b c : Bool) → i < n → Worked n rules (Upto (A * n) (B * n) (C * n) i) rs b rs'
        → ProductTaken rs' (A * n + i) (B * n + i) (C * n) c rs''
        → Worked n rules (Upto (A * n) (B * n) (C * n) (i + 1)) rs (b || c) rs''
    work_more {rs''} {i} b c from x j = record {
      grown = rw j.is (more _ j.w x.grown (record { r = r; A = A; B = B; C = C; i = i; rule = rule; from = from; row = refl; is = j.product }));
      went = went_then _ _ _ rs rs' rs'' (grown_length x.grown) (λ p q. below_more _ i p q) b c x.went j.went;
    }

    -- all of the rule
    pub work_all : (b : Bool) {c : ℕ} → n ≤ c → Worked n rules (Upto (A * n) (B * n) (C * n) c) rs b rs' → Worked n rules (Products n rules r) rs b rs'
    work_all b e x = record {
      grown = x.grown;
      went = went_as _ _ rs rs' b (λ u A' B' C' i p h.
          rw (sym p.head ∙ rule.head, sym p.left ∙ rule.left, sym p.right ∙ rule.right) (u i (omega arith))) x.went;
    }

  -- one rule more
  pub round_more : {rs'' : List ℕ} (r : ℕ) (b c : Bool) → Worked n rules (Below n rules r) rs b rs' → Worked n rules (Products n rules r) rs' c rs''
      → Worked n rules (Below n rules (r + 1)) rs (b || c) rs''
  round_more {rs''} r b c x y = record {
    grown = grown_then x.grown y.grown;
    went = went_then _ _ _ rs rs' rs'' (grown_length x.grown) (λ p q. below_more _ r p q) b c x.went y.went;
  }

  -- all of them
  pub round_all : (b : Bool) {c : ℕ} → length rules / 3 ≤ c → Worked n rules (Below n rules c) rs b rs' → Worked n rules (AllProducts n rules) rs b rs'
  round_all b e x = record { grown = x.grown; went = went_as _ _ rs rs' b (λ u r A B C i p. u r (omega (arith, p.inside)) A B C i p) x.went }

  -- a round that changed nothing is the last
  pub round_last : {rs'' : List ℕ} (b : Bool) → b ≡ false → RowsGrown (PairStep n rules) rs rs' → Worked n rules (AllProducts n rules) rs' b rs'' → RowsClosed n rules rs rs''
  round_last b e x y = let w = rw e at y.went in record { grown = grown_then x y.grown; still = rw w.0 w.1 }

-- ---- any other brings the rows nearer to full

abbrev pub gap : List ℕ → ℕ
gap rs = length rs * 2 ^ 64 - total rs (length rs)

total_most : (rs : List ℕ) → ((a : ℕ) → get_or rs a 0 < 2 ^ 64) → (c : ℕ) → total rs c ≤ c * 2 ^ 64
total_most rs low zero = omega arith
total_most rs low (suc c) = omega (arith, total_most rs low c, low c)

pub round_less : (n : ℕ) {rules rs rs' : List ℕ} {P : List ℕ → Type 0} (b : Bool) → b ≡ true → Worked n rules P rs b rs'
    → ((a : ℕ) → get_or rs' a 0 < 2 ^ 64) → gap rs' < gap rs
round_less n {rs} {rs'} b e x low = rw (grown_length x.grown) (omega (arith, total_most rs' low (length rs), rw e at x.went))

-- what the loops over rules and over rounds need
pub ruleset rounding = (ready_grown, round_start)

pub ruleset closing = (none, ready_grown, grown_then, round_last, round_less)
