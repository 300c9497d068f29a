-- A promise that is an equation settles what it speaks of. Assumes nothing.
use mathlib.Core.Path.{◌≡◌, refl, sym, ◌∙◌}
use mathlib.Core.List.{List, [], ◌∷◌}
use Rattle.std.specs.Prelude.{map}
use Prim.Native.Nat.{ℕ, ◌<◌}
use Rattle.words.specs.Refusals.{Check, ScanIs}

-- two outcomes that meet it are equal
pub equation_settles : {X : Type 0} {x y is : X} → x ≡ is → y ≡ is → x ≡ y
equation_settles p q = p ∙ sym q

-- Words of any size, of which two with one number are one: an equation of their numbers settles them too.
module _ {W : Type 0} (value : W → ℕ) (one : (x y : W) → value x ≡ value y → x ≡ y) where
  pub word_settled : {x y : W} {is : ℕ} → value x ≡ is → value y ≡ is → x ≡ y
  word_settled p q = one _ _ (equation_settles p q)

  same_words : (l m : List W) → map value l ≡ map value m → l ≡ m
  same_words [] [] e = refl
  same_words [] (y ∷ m) e = cc
  same_words (x ∷ l) [] e = cc
  same_words (x ∷ l) (y ∷ m) e =
      let first : value x ≡ value y = cc in
      let rest : map value l ≡ map value m = cc in
      rw (one x y first, same_words l m rest)

  module _ (values : List W → List ℕ) (each : (l : List W) → values l ≡ map value l) where
    pub words_settled : {l m : List W} {is : List ℕ} → values l ≡ is → values m ≡ is → l ≡ m
    words_settled {l} {m} p q = same_words l m (sym (each l) ∙ equation_settles p q ∙ each m)

-- two answers of a scan, where the calls of its closure have one answer each
pub scan_settled : {post : ℕ → Check → Type 0} {n : ℕ} {x y : Check} (c : ℕ → Check)
    → ((k : ℕ) (q : Check) → k < n → post k q → q ≡ c k) → ScanIs post n x → ScanIs post n y → x ≡ y
scan_settled c one p q = equation_settles (p c one) (q c one)
