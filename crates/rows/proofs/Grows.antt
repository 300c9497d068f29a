-- Rows that grow keep their bits, and keep what every step keeps. Assumes nothing.
use mathlib.Core.Path.{◌≡◌, refl, sym, ap, ◌∙◌}
use mathlib.Core.List.{List}
use mathlib.Core.Logic.{◌⊎◌, inl, inr}
use Prim.Native.Nat.{ℕ, ◌+◌, ◌*◌, ◌/◌, ◌%◌, ◌<◌}
use native.Mathlib.Omega.{arith}
use lib.ListN.{length, get_or, drop}
use lib.Arith.{digits_div, digits_mod}
use Rattle.meaning.specs.Net.{PairRule}
use Rattle.meaning.specs.Rows.{bit, row_at}
use Rattle.numbers.specs.declared.Numbers.{Numbers}
use Rattle.rows.specs.Rounds.{united, RowsGrown, none, more, PairStep, EachBit, InRange, RowsReady}
use Rattle.rows.proofs.United.{united_length, united_rest, united_only, united_keeps}

module _ {Step : List ℕ → ℕ → ℕ → Type 0} {rs : List ℕ} where
  pub grown_then : {rs' rs'' : List ℕ} → RowsGrown Step rs rs' → RowsGrown Step rs' rs'' → RowsGrown Step rs rs''
  grown_then x none = x
  grown_then x (more a w y s) = more a w (grown_then x y) s

  pub grown_length : {rs' : List ℕ} → RowsGrown Step rs rs' → length rs' ≡ length rs
  grown_length none = refl
  grown_length (more {rs'} a w x s) = united_length rs' a w ∙ grown_length x

  pub grown_keeps : {rs' : List ℕ} → RowsGrown Step rs rs' → (c j : ℕ) → bit (get_or rs c 0) j ≡ 1 → bit (get_or rs' c 0) j ≡ 1
  grown_keeps none c j b = b
  grown_keeps (more {rs'} a w x s) c j b = united_keeps rs' a w c j (grown_keeps x c j b)

  -- what lies past every row that a step may take into is kept
  pub grown_rest : {rs' : List ℕ} (c : ℕ) → ((rs : List ℕ) (a w : ℕ) → Step rs a w → a < c) → RowsGrown Step rs rs' → drop c rs' ≡ drop c rs
  grown_rest c low none = refl
  grown_rest c low (more {rs'} a w x s) = united_rest rs' a w c (low rs' a w s) ∙ grown_rest c low x

-- two rows with the same number are the same row
pub row_same : (n A B i k : ℕ) → i < n → k < n → A * n + i ≡ B * n + k → (A ≡ B) × (i ≡ k)
row_same n A B i k hi hk e =
    (sym (digits_div A hi) ∙ ap (λ c. c / n) e ∙ digits_div B hk, sym (digits_mod A hi) ∙ ap (λ c. c % n) e ∙ digits_mod B hk)

module _ (numbers : Numbers) (P : ℕ → ℕ → ℕ → Type 0) where
  -- P of the bits that w brings to row a
  abbrev Brings : ℕ → ℕ → Type 0
  Brings a w = (A i j : ℕ) → A < numbers.nonterminals → i < numbers.nodes → A * numbers.nodes + i ≡ a → bit w j ≡ 1 → P A i j

  pub grown_each : {Step : List ℕ → ℕ → ℕ → Type 0} {rs rs' : List ℕ}
      → ((rs : List ℕ) (a w : ℕ) → EachBit numbers P rs → Step rs a w → Brings a w)
      → RowsGrown Step rs rs' → EachBit numbers P rs → EachBit numbers P rs'
  grown_each brings none h = h
  grown_each brings (more {rs'} a w x s) h = go (grown_each brings x h)
    where
      go : EachBit numbers P rs' → EachBit numbers P (united rs' a w)
      go q A i j hA hi b = by (united_only rs' a w (A * numbers.nodes + i) j b)
        where
          by : (bit (row_at numbers.nodes rs' A i) j ≡ 1) ⊎ ((A * numbers.nodes + i ≡ a) × (bit w j ≡ 1)) → P A i j
          by (inl u) = q A i j hA hi u
          by (inr u) = brings rs' a w q s A i j hA hi u.0 u.1

-- P is of nodes, and of the head of a pair rule where it is of both sides
pub record Keeps (numbers : Numbers) (rules : List ℕ) (P : ℕ → ℕ → ℕ → Type 0) : Type 0 where
  pub inside : (A i j : ℕ) → P A i j → j < numbers.nodes
  pub joins : (r A B C i k j : ℕ) → PairRule rules r A B C → P B i k → P C k j → P A i j

module _ (numbers : Numbers) {rules : List ℕ} (range : InRange numbers rules) where
  -- then the rounds keep it
  pub pairs_each : (P : ℕ → ℕ → ℕ → Type 0) {rs rs' : List ℕ} → Keeps numbers rules P → RowsGrown (PairStep numbers.nodes rules) rs rs'
      → EachBit numbers P rs → EachBit numbers P rs'
  pairs_each P keeps = grown_each numbers P (λ rs a w h s A i j hA hi e b.
      let q = row_same numbers.nodes A s.A i s.i hi s.from (e ∙ s.row) in
      let c = s.is.only j b in
      let m = range s.r s.A s.B s.C s.rule in
      let l = h s.B s.i c.k m.1 s.from c.choice in
      let u = h s.C c.k j m.2 (keeps.inside _ _ _ l) c.row in
      rw (q.0, q.1) (keeps.joins s.r s.A s.B s.C s.i c.k j s.rule l u))

pub ready_grown : {numbers : Numbers} {rules rs rs' : List ℕ} → RowsReady numbers rules rs → RowsGrown (PairStep numbers.nodes rules) rs rs'
    → RowsReady numbers rules rs'
ready_grown {numbers} r x = record {
  long = omega (arith, r.long, grown_length x);
  range = r.range;
  clear =
      pairs_each numbers r.range (λ A i j. j < numbers.nodes) (record { inside = λ A i j h. h; joins = λ r A B C i k j p h l. l }) x r.clear;
}
