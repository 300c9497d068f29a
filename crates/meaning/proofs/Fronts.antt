-- Two lists with the same front and the same rest are equal; so are two tables that agree at every cell. Assumes nothing.
use mathlib.Core.Path.{◌≡◌, sym, ap₂, ◌∙◌, subst}
use mathlib.Core.List.{List, ◌++◌}
use Prim.Native.Nat.{ℕ, ◌/◌, ◌%◌, ◌≤◌, ◌<◌}
use native.Mathlib.Omega.{arith}
use lib.ListN.{length, get_or, take, drop, take-append-drop}
use lib.Seq.{length-take-le, get_or-take, ext_get_or}
use Rattle.meaning.specs.Net.{Net}
use Rattle.meaning.specs.Table.{at, cells, Each}
use Rattle.meaning.proofs.Cells.{cell_back}

pub fronts_same : (c : ℕ) (s t : List ℕ) → c ≤ length s → c ≤ length t → ((i : ℕ) → i < c → get_or s i 0 ≡ get_or t i 0)
    → drop c s ≡ drop c t → s ≡ t
fronts_same c s t hs ht e d = sym (take-append-drop c s) ∙ ap₂ ◌++◌ front d ∙ take-append-drop c t
  where
    front : take c s ≡ take c t
    front =
        let ls = length-take-le c s hs in
        ext_get_or 0 (take c s) (take c t) (ls ∙ sym (length-take-le c t ht)) (λ i h.
        let l : i < c = omega arith in
        get_or-take c s i 0 l ∙ e i l ∙ sym (get_or-take c t i 0 l))

pub tables_same : (g : Net) (s t : List ℕ) → cells g ≤ length s → cells g ≤ length t
    → Each g (λ A i j. at g.nodes s A i j ≡ at g.nodes t A i j) → drop (cells g) s ≡ drop (cells g) t → s ≡ t
tables_same g s t hs ht e d = fronts_same (cells g) s t hs ht (λ c h.
    let b = cell_back g.nodes g.nonterminals c h in
    subst (λ x. get_or s x 0 ≡ get_or t x 0) b.is (e (c / g.nodes / g.nodes) (c / g.nodes % g.nodes) (c % g.nodes) b.head b.from b.to)) d
