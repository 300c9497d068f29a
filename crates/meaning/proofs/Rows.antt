-- Rows are unique, and a bit is set exactly if the final table's cell is filled. Assumes nothing.
use mathlib.Core.Path.{◌≡◌, sym, ap, ◌∙◌, subst}
use mathlib.Core.List.{List}
use mathlib.Core.Logic.Iff
use mathlib.Core.Logic.{◌↔◌}
use Prim.Native.Nat.{ℕ, ◌+◌, ◌*◌, ◌/◌, ◌%◌, ◌<◌}
use native.Mathlib.Omega.{arith}
use native.Mathlib.Nat.{div-add-mod', div-lt_iff_lt-mul, mod-lt}
use native.Mathlib.Decide.{ℕ_discrete}
use lib.ListN.{get_or, drop}
use Rattle.key.specs.Keys.{EMPTY}
use Rattle.meaning.specs.Net.{Net, Sane}
use Rattle.meaning.specs.Table.{at, Each}
use Rattle.meaning.specs.Final.{FinalTable}
use Rattle.meaning.specs.Rows.{bit, row_at, Row, RowTable}
use Rattle.meaning.proofs.Bits.{bits_same}
use Rattle.meaning.proofs.Fronts.{fronts_same}
use Rattle.meaning.proofs.FinalTables.{final_filled}

same_bit : (v w j : ℕ) {P : Type 0} → (bit v j ≡ 1) ↔ P → (bit w j ≡ 1) ↔ P → bit v j ≡ bit w j
same_bit v w j a b = go (ℕ_discrete (bit v j) 1) (ℕ_discrete (bit w j) 1)
  where
    go : Dec (bit v j ≡ 1) → Dec (bit w j ≡ 1) → bit v j ≡ bit w j
    go (yes x) (yes y) = x ∙ sym y
    go (yes x) (no y) = absurd (y (b.1 (a.0 x)))
    go (no x) (yes y) = absurd (x (a.1 (b.0 y)))
    go (no x) (no y) = omega arith

-- each number below the count of rows is a row's
pub row_back : (n m c : ℕ) → c < m * n → (c / n * n + c % n ≡ c) × (c / n < m) × (c % n < n)
row_back n m c h = go (ℕ_discrete n 0)
  where
    go : Dec (n ≡ 0) → (c / n * n + c % n ≡ c) × (c / n < m) × (c % n < n)
    go (yes e) = absurd (let z : m * n ≡ m * 0 = ap (λ x. m * x) e in omega arith)
    go (no e) =
        let p : 0 < n = omega arith in
        (div-add-mod' c n, (div-lt_iff_lt-mul p).1 h, mod-lt c p)

module _ {g : Net} where
  pub row_one : {A i v w : ℕ} → Row g A i v → Row g A i w → v ≡ w
  row_one {v} {w} a b = bits_same g.nodes v w a.clear b.clear (λ j h. same_bit v w j (a.bits j h) (b.bits j h))

  module _ {rs rs' : List ℕ} (x : RowTable g rs) (y : RowTable g rs') where
    pub rows_one : (A i : ℕ) → A < g.nonterminals → i < g.nodes → row_at g.nodes rs A i ≡ row_at g.nodes rs' A i
    rows_one A i hA hi = row_one (x.row A i hA hi) (y.row A i hA hi)

    -- two row lists with the same rest are one
    pub rows_list : drop (g.nonterminals * g.nodes) rs ≡ drop (g.nonterminals * g.nodes) rs' → rs ≡ rs'
    rows_list = fronts_same (g.nonterminals * g.nodes) rs rs' x.long y.long (λ c h.
        let b = row_back g.nodes g.nonterminals c h in
        subst (λ z. get_or rs z 0 ≡ get_or rs' z 0) b.0 (rows_one (c / g.nodes) (c % g.nodes) b.1 b.2))

-- a bit is set exactly if the final table's cell is filled
pub rows_filled : {g : Net} → Sane g → {t rs : List ℕ} → FinalTable g t → RowTable g rs
    → Each g (λ A i j. (bit (row_at g.nodes rs A i) j ≡ 1) ↔ (at g.nodes t A i j < EMPTY))
rows_filled ok {t} final rows A i j hA hi hj =
    Iff.trans ((rows.row A i hA hi).bits j hj) (Iff.symm (final_filled ok t final A i j hA hi hj))
