-- The lines of the pairs are one text, and their number is that of the pairs that are reached. Assumes nothing.
use mathlib.Core.Path.{◌≡◌, refl, ap}
use mathlib.Core.List.{List}
use Prim.Native.Nat.{ℕ, zero, suc, ◌*◌, ◌/◌, ◌%◌, ◌≤◌, ◌<◌}
use native.Mathlib.Omega.{arith}
use Rattle.meaning.specs.Net.{Net, Sane}
use Rattle.meaning.specs.Trees.{Reached}
use Rattle.meaning.specs.Final.{FinalTable}
use Rattle.meaning.proofs.FinalTables.{final_filled}
use Rattle.meaning.proofs.Rows.{row_back}
use Rattle.meaning.proofs.Recorded.{recorded_one}
use Rattle.text.specs.Text.{path_text}
use Rattle.text.specs.Pairs.{Tail, pair_line, Lines}

-- k of the first c numbers have P
pub data Counted (P : ℕ → Type 0) : ℕ → ℕ → Type 0 where
  none : Counted P zero 0
  no : {c k : ℕ} → ¬ P c → Counted P c k → Counted P (suc c) k
  yes : {c k : ℕ} → P c → Counted P c k → Counted P (suc c) (suc k)

module _ {g : Net} (ok : Sane g) {t ls : List ℕ} {A : ℕ} where
  tail_one : {i j : ℕ} {v w : List ℕ} → Tail g t ls A i j v → Tail g t ls A i j w → v ≡ w
  tail_one (Tail.shown h p) (Tail.shown l q) = ap path_text (recorded_one ok p q)
  tail_one (Tail.shown h p) (Tail.long l) = absurd (omega arith)
  tail_one (Tail.long h) (Tail.shown l q) = absurd (omega arith)
  tail_one (Tail.long h) (Tail.long l) = refl

  pub lines_one : {c k m : ℕ} {v w : List ℕ} → Lines g t ls A c v k → Lines g t ls A c w m → (v ≡ w) × (k ≡ m)
  lines_one Lines.none Lines.none = (refl, refl)
  lines_one (Lines.empty e x) (Lines.empty f y) = lines_one x y
  lines_one (Lines.empty e x) (Lines.pair l q y) = absurd (omega arith)
  lines_one (Lines.pair l p x) (Lines.empty e y) = absurd (omega arith)
  lines_one (Lines.pair {c} l p x) (Lines.pair m q y) =
      let s = lines_one x y in
      let e = ap (pair_line g t ls A (c / g.nodes) (c % g.nodes)) (tail_one p q) in
      (rw (s.0, e), ap suc s.1)

  -- the lines are as many as the pairs that are reached
  pub pairs_reached : FinalTable g t → A < g.nonterminals → {c k : ℕ} {w : List ℕ} → c ≤ g.nodes * g.nodes → Lines g t ls A c w k
      → Counted (λ c. Reached g A (c / g.nodes) (c % g.nodes)) c k
  pairs_reached final a b Lines.none = Counted.none
  pairs_reached final a b (Lines.empty {c} e x) =
      let h = row_back g.nodes g.nodes c b in
      Counted.no
      (λ r. let l = (final_filled ok t final A (c / g.nodes) (c % g.nodes) a h.1 h.2).1 r in omega arith)
      (pairs_reached final a (omega arith) x)
  pairs_reached final a b (Lines.pair {c} l p x) =
      let h = row_back g.nodes g.nodes c b in
      Counted.yes
      ((final_filled ok t final A (c / g.nodes) (c % g.nodes) a h.1 h.2).0 l)
      (pairs_reached final a (omega arith) x)
