-- The lowest edge with given ends and label is the one that a search finds first. Assumes nothing.
use mathlib.Core.Path.{◌≡◌, refl}
use mathlib.Core.List.{List}
use mathlib.Core.Bool.{true, ◌&&◌}
use Prim.Native.Nat.{ℕ, ◌/◌, ◌≤◌, ◌<◌}
use native.Mathlib.Omega.{arith}
use lib.ListN.{length}
use lib.Dec.{eqb}
use borrow.Author.Tests.{eqb-true, eq-eqb}
use Rattle.words.proofs.First.{first_here, first_lowest}
use Rattle.words.proofs.Refusals.{both}
use Rattle.meaning.specs.Net.{Edge, word}
use Rattle.meaning.specs.Lengths.{LowestEdge}
use Rattle.meaning.specs.Computed.{is_edge, lowest_edge}

module _ (edges : List ℕ) (i x j : ℕ) where
  pub edge_test : {e : ℕ} → Edge edges e i x j → is_edge edges i x j e ≡ true
  unfolding is_edge
  edge_test d = rw (eq-eqb _ _ d.from, eq-eqb _ _ d.label, eq-eqb _ _ d.to) refl

  pub test_edge : (e : ℕ) → e < length edges / 3 → is_edge edges i x j e ≡ true → Edge edges e i x j
  unfolding is_edge
  test_edge e l t =
      let a = (both (eqb (word edges e 0) i) (eqb (word edges e 1) x && eqb (word edges e 2) j)).0 t in
      let b = (both (eqb (word edges e 1) x) (eqb (word edges e 2) j)).0 a.1 in
      record { inside = l; from = eqb-true _ _ a.0; label = eqb-true _ _ b.0; to = eqb-true _ _ b.1 }

  none_lower : (e : ℕ) → Edge edges e i x j → lowest_edge edges i x j ≤ e
  unfolding lowest_edge
  none_lower e d = first_lowest (is_edge edges i x j) (length edges / 3) e (edge_test d)

  -- what a search finds is the lowest edge
  pub found_lowest : lowest_edge edges i x j < length edges / 3 → LowestEdge edges i x j (lowest_edge edges i x j)
  unfolding lowest_edge
  found_lowest l = record { edge = test_edge _ l (first_here (is_edge edges i x j) (length edges / 3) l); least = none_lower }

  -- and where there is an edge it finds one
  pub lowest_found : {e : ℕ} → Edge edges e i x j → LowestEdge edges i x j (lowest_edge edges i x j)
  lowest_found {e} d = found_lowest (omega (arith, d.inside, none_lower e d))

  pub lowest_one : {e f : ℕ} → LowestEdge edges i x j e → LowestEdge edges i x j f → e ≡ f
  lowest_one {e} {f} c d = omega (arith, c.least f d.edge, d.least e c.edge)
