-- What a rule says of the three words that it was read from. Assumes nothing.
use mathlib.Core.Bool.{true, false}
use mathlib.Core.Path.{◌≡◌}
use Prim.Native.Nat.{ℕ}
use lib.Dec.{eqb}
use borrow.Table.Steps.{cases}
use Rattle.meaning.specs.Records.{rule_of}
use Rattle.meaning.specs.declared.Rule.{Rule}
use Rattle.meaning.specs.declared.Rule.TheVariants.{Label, Pair}

-- the words a, b, c are those of the label rule A → x
pub record LabelWords (a b c A x : ℕ) : Type 0 where
  pub head : a ≡ A
  pub label : b ≡ x
  pub mark : eqb c 65535 ≡ true

-- the words a, b, c are those of the pair rule A → B C
pub record PairWords (a b c A B C : ℕ) : Type 0 where
  pub head : a ≡ A
  pub left : b ≡ B
  pub right : c ≡ C
  pub pair : eqb c 65535 ≡ false

pub label_words : {a b c A x : ℕ} → Label A x ≡ rule_of a b c → LabelWords a b c A x
unfolding rule_of
label_words {a} {b} {c} {A} {x} e =
    cases (eqb c 65535)
    (λ t. let q : ◌≡◌ {A = Rule} (Label A x) (Label a b) = rw t at e in record { head = cc; label = cc; mark = t })
    (λ f. let q : ◌≡◌ {A = Rule} (Label A x) (Pair a b c) = rw f at e in absurd cc)

pub pair_words : {a b c A B C : ℕ} → Pair A B C ≡ rule_of a b c → PairWords a b c A B C
unfolding rule_of
pair_words {a} {b} {c} {A} {B} {C} e =
    cases (eqb c 65535)
    (λ t. let q : ◌≡◌ {A = Rule} (Pair A B C) (Label a b) = rw t at e in absurd cc)
    (λ f. let q : ◌≡◌ {A = Rule} (Pair A B C) (Pair a b c) = rw f at e in record { head = cc; left = cc; right = cc; pair = f })
