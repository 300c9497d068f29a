-- The depth of a final table is the largest of the least heights of trees, and 0 if no cell has a tree. Assumes nothing.
use mathlib.Core.Path.{◌≡◌, refl}
use mathlib.Core.List.{List}
use mathlib.Core.Bool.{Bool, true, false, cond}
use Prim.Native.Nat.{ℕ, zero, suc, ◌/◌, ◌%◌, ◌^◌, ◌≤◌, ◌<◌}
use native.Mathlib.Omega.{arith}
use native.Mathlib.Decide.{ℕ_discrete, dec_lt}
use lib.ListN.{get_or}
use lib.Dec.{ltb}
use borrow.Author.Tests.{ltb-true, lt-ltb}
use Rattle.key.specs.Keys.{EMPTY, height_of}
use Rattle.meaning.specs.Net.{Net, Sane}
use Rattle.meaning.specs.Trees.{Least}
use Rattle.meaning.specs.Table.{cell, cells, at}
use Rattle.meaning.specs.Final.{FinalTable}
use Rattle.meaning.specs.Lengths.{depth, Deepest}
use Rattle.meaning.proofs.Cells.{cell_in, cell_back}
use Rattle.meaning.proofs.FinalTables.{final_filled, final_least}

-- what word c brings to the depth
abbrev height_at : List ℕ → ℕ → ℕ
height_at t c = cond (ltb (get_or t c 0) EMPTY) (height_of (get_or t c 0)) 0

height_at_lem : (t : List ℕ) (c : ℕ) → get_or t c 0 < EMPTY → height_at t c ≡ height_of (get_or t c 0)
height_at_lem t c l = rw (lt-ltb (get_or t c 0) EMPTY l) refl

bounds : (t : List ℕ) (n c : ℕ) → c < n → height_at t c ≤ depth t n
bounds t zero c h = absurd (omega arith)
bounds t (suc n) c h = go (ℕ_discrete c n) (bounds t n c)
  where
    go : Dec (c ≡ n) → (c < n → height_at t c ≤ depth t n) → height_at t c ≤ depth t (suc n)
    go (yes e) below = rw e (omega arith)
    go (no e) below = let l : c < n = omega arith in omega (arith, below l)

-- a height has 32 bits
pub depth_small : (t : List ℕ) (n : ℕ) → depth t n < 2 ^ 32
depth_small t zero = omega arith
depth_small t (suc n) = let k = depth_small t n in let h = small (ltb (get_or t n 0) EMPTY) refl in omega arith
  where
    small : (b : Bool) → ltb (get_or t n 0) EMPTY ≡ b → height_at t n < 2 ^ 32
    small false e = let z : height_at t n ≡ 0 = rw e refl in omega arith
    small true e = let l = ltb-true (get_or t n 0) EMPTY e in omega (arith, height_at_lem t n l)

-- a filled word whose height the depth is
record Found (t : List ℕ) (n : ℕ) : Type 0 where
  c : ℕ
  inside : c < n
  filled : get_or t c 0 < EMPTY
  is : height_of (get_or t c 0) ≡ depth t n

found : (t : List ℕ) (n : ℕ) → 0 < depth t n → Found t n
found t zero h = absurd (omega arith)
found t (suc n) h = go (dec_lt (depth t n) (height_at t n)) (found t n)
  where
    here : (b : Bool) → ltb (get_or t n 0) EMPTY ≡ b → depth t n < height_at t n → Found t (suc n)
    here false e l = absurd (let z : height_at t n ≡ 0 = rw e refl in omega arith)
    here true e l =
        let f = ltb-true (get_or t n 0) EMPTY e in
        record { c = n; inside = omega arith; filled = f; is = omega (arith, height_at_lem t n f) }

    go : Dec (depth t n < height_at t n) → (0 < depth t n → Found t n) → Found t (suc n)
    go (yes l) below = here (ltb (get_or t n 0) EMPTY) refl l
    go (no l) below =
        let f = below (omega arith) in
        record { c = f.c; inside = omega (arith, f.inside); filled = f.filled; is = omega (arith, f.is) }

pub final_depth : {g : Net} → Sane g → (t : List ℕ) → FinalTable g t → Deepest g (depth t (cells g))
final_depth {g} ok t final = record { bound = bound; reached = reached }
  where
    bound : (A i j : ℕ) → A < g.nonterminals → i < g.nodes → j < g.nodes → (h : ℕ) → Least g A i j h → h ≤ depth t (cells g)
    bound A i j hA hi hj h x =
        let l = (final_filled ok t final A i j hA hi hj).1 (record { height = h; edges = x.edges; reach = x.reach }) in
        let y = final_least ok t final A i j hA hi hj l in
        let k = bounds t (cells g) (cell g.nodes A i j) (cell_in g.nodes g.nonterminals A i j hA hi hj) in
        omega (arith, x.least _ y.edges y.reach, height_at_lem t (cell g.nodes A i j) l)

    reached : 0 < depth t (cells g) → (A : ℕ) × ((i : ℕ) × ((j : ℕ) × Least g A i j (depth t (cells g))))
    reached p =
        let f = found t (cells g) p in
        let A = f.c / g.nodes / g.nodes in
        let i = f.c / g.nodes % g.nodes in
        let j = f.c % g.nodes in
        let b = cell_back g.nodes g.nonterminals f.c f.inside in
        let filled : at g.nodes t A i j < EMPTY = rw b.is f.filled in
        let tall : height_of (at g.nodes t A i j) ≡ depth t (cells g) = rw b.is f.is in
        (A, (i, (j, rw tall at (final_least ok t final A i j b.head b.from b.to filled))))
