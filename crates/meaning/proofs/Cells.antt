-- Cell numbers: in range, different for different cells, and each number a cell's; and what a candidate is. Assumes nothing.
use mathlib.Core.Path.{◌≡◌, refl, sym, ap, ◌∙◌, subst}
use mathlib.Core.List.{List}
use mathlib.Core.Logic.{◌⊎◌, inl, inr}
use mathlib.Core.Bool.{Bool, true, false}
use Prim.Native.Nat.{ℕ, ◌+◌, ◌*◌, ◌/◌, ◌%◌, ◌≤◌, ◌<◌}
use native.Mathlib.Omega.{arith}
use native.Mathlib.Nat.{add-mul, mul-le-mul, div-add-mod', div-lt_iff_lt-mul, mod-lt}
use native.Mathlib.Decide.{ℕ_discrete}
use lib.ListN.{get_or}
use lib.Dec.{ltb}
use lib.Arith.{digits_lt, digits_div, digits_mod}
use borrow.Author.Tests.{ltb-true, lt-ltb, le-ltb}
use Rattle.key.specs.Keys.{EMPTY, key, height_of}
use Rattle.meaning.specs.Net.{Net, Sane}
use Rattle.meaning.specs.Trees.{joined}
use Rattle.meaning.specs.Table.{cell, cells, at, Each}
use Rattle.meaning.specs.Steps.{candidate}

-- a cell number holds its nonterminal and its two nodes
pub cell_parts : (n A i j : ℕ) → i < n → j < n → (cell n A i j / n / n ≡ A) × (cell n A i j / n % n ≡ i) × (cell n A i j % n ≡ j)
unfolding cell
cell_parts n A i j hi hj =
    let e = digits_div (A * n + i) hj in
    (ap (λ z. z / n) e ∙ digits_div A hi, ap (λ z. z % n) e ∙ digits_mod A hi, digits_mod (A * n + i) hj)

-- so different cells have different numbers
pub cell_same : (n A A' i i' j j' : ℕ) → i < n → i' < n → j < n → j' < n → cell n A i j ≡ cell n A' i' j'
    → (A ≡ A') × (i ≡ i') × (j ≡ j')
cell_same n A A' i i' j j' hi hi' hj hj' e =
    let u = cell_parts n A i j hi hj in
    let v = cell_parts n A' i' j' hi' hj' in
    (sym u.0 ∙ ap (λ c. c / n / n) e ∙ v.0, sym u.1 ∙ ap (λ c. c / n % n) e ∙ v.1, sym u.2 ∙ ap (λ c. c % n) e ∙ v.2)

pub cell_in : (n m A i j : ℕ) → A < m → i < n → j < n → cell n A i j < m * n * n
unfolding cell
cell_in n m A i j hA hi hj = digits_lt (digits_lt hA hi) hj

-- cell c of a nonterminal stands c behind its first
pub cell_behind : (n A c : ℕ) → cell n A (c / n) (c % n) ≡ cell n A 0 0 + c
unfolding cell
cell_behind n A c = omega (arith, add-mul (A * n) (c / n) n, div-add-mod' c n, add-mul (A * n) 0 n)

-- each number below the count of cells is a cell's
pub record CellOf (n m c : ℕ) : Type 0 where
  pub is : cell n (c / n / n) (c / n % n) (c % n) ≡ c
  pub head : c / n / n < m
  pub from : c / n % n < n
  pub to : c % n < n

pub cell_back : (n m c : ℕ) → c < m * n * n → CellOf n m c
unfolding cell
cell_back n m c h = go (ℕ_discrete n 0)
  where
    go : Dec (n ≡ 0) → CellOf n m c
    go (yes e) = absurd (let z : m * n * n ≡ m * n * 0 = ap (λ x. m * n * x) e in omega arith)
    go (no e) =
        let p : 0 < n = omega arith in
        let a : c / n < m * n = (div-lt_iff_lt-mul p).1 h in
        record {
          is = ap (λ z. z * n + c % n) (div-add-mod' (c / n) n) ∙ div-add-mod' c n;
          head = (div-lt_iff_lt-mul p).1 a;
          from = mod-lt (c / n) p;
          to = mod-lt c p;
        }

pub cells_few : {g : Net} → Sane g → cells g ≤ 131072
cells_few ok = omega (arith, mul-le-mul (mul-le-mul ok.nonterminals ok.nodes) ok.nodes)

-- what holds of the word at every cell number holds of every cell's word, and the other way round
module _ (g : Net) (t : List ℕ) (P : ℕ → ℕ → ℕ → ℕ → Type 0) where
  pub numbers_cells : ((c : ℕ) → c < cells g → P (c / g.nodes / g.nodes) (c / g.nodes % g.nodes) (c % g.nodes) (get_or t c 0))
      → Each g (λ A i j. P A i j (at g.nodes t A i j))
  numbers_cells f A i j hA hi hj =
      let e = cell_parts g.nodes A i j hi hj in
      rw (e.0, e.1, e.2) at (f (cell g.nodes A i j) (cell_in g.nodes g.nonterminals A i j hA hi hj))

  pub cells_numbers : Each g (λ A i j. P A i j (at g.nodes t A i j)) → (c : ℕ) → c < cells g
      → P (c / g.nodes / g.nodes) (c / g.nodes % g.nodes) (c % g.nodes) (get_or t c 0)
  cells_numbers f c h =
      let b = cell_back g.nodes g.nonterminals c h in
      subst (λ x. P (c / g.nodes / g.nodes) (c / g.nodes % g.nodes) (c % g.nodes) (get_or t x 0)) b.is
      (f (c / g.nodes / g.nodes) (c / g.nodes % g.nodes) (c % g.nodes) b.head b.from b.to)

-- the key that two filled sides give
pub record Given (x y k r κ : ℕ) : Type 0 where
  pub left : x < EMPTY
  pub right : y < EMPTY
  pub is : κ ≡ key (joined (height_of x) (height_of y)) k r

module _ (x y k r : ℕ) where
  pub candidate_filled : x < EMPTY → y < EMPTY → candidate x y k r ≡ key (joined (height_of x) (height_of y)) k r
  unfolding candidate
  candidate_filled hx hy = rw (lt-ltb x EMPTY hx, lt-ltb y EMPTY hy) refl

  pub candidate_left : EMPTY ≤ x → candidate x y k r ≡ EMPTY
  unfolding candidate
  candidate_left h = rw (le-ltb x EMPTY h) refl

  pub candidate_cases : (candidate x y k r ≡ EMPTY) ⊎ Given x y k r (candidate x y k r)
  unfolding candidate
  candidate_cases = go (ltb x EMPTY) refl (ltb y EMPTY) refl
    where
      go : (b : Bool) → ltb x EMPTY ≡ b → (c : Bool) → ltb y EMPTY ≡ c → (candidate x y k r ≡ EMPTY) ⊎ Given x y k r (candidate x y k r)
      go false e c f = inl (rw e refl)
      go true e false f = inl (rw (e, f) refl)
      go true e true f = inr (record { left = ltb-true x EMPTY e; right = ltb-true y EMPTY f; is = rw (e, f) refl })

  pub candidate_right : EMPTY ≤ y → candidate x y k r ≡ EMPTY
  candidate_right h = go candidate_cases
    where
      go : (candidate x y k r ≡ EMPTY) ⊎ Given x y k r (candidate x y k r) → candidate x y k r ≡ EMPTY
      go (inl e) = e
      go (inr c) = absurd (omega (arith, c.right))
