-- Laws of the pairs' lines: one line, and one line more. Assumes nothing.
use mathlib.Core.Path.{◌≡◌}
use mathlib.Core.List.{List, ◌++◌}
use Prim.Native.Nat.{ℕ, suc, ◌+◌, ◌*◌, ◌/◌, ◌%◌, ◌≤◌, ◌<◌}
use native.Mathlib.Nat.{mul-le-mul}
use native.Mathlib.Numerals.{add-one}
use native.Mathlib.Omega.{arith}
use lib.Arith.{digits_div, digits_mod}
use Rattle.key.specs.Keys.{EMPTY, parts_of}
use Rattle.key.specs.declared.Parts.{Parts}
use Rattle.meaning.specs.Net.{Net}
use Rattle.text.specs.declared.pen.Pen.{Pen}
use Rattle.text.specs.declared.query.Query.{Query}
use Rattle.text.specs.Text.{ascii, pair_head}
use Rattle.text.specs.Pairs.{pair_line, Lines}
use Rattle.text.specs.Pen.{Penned}
use Rattle.text.specs.Queried.{checked_numbers, key_at, length_at}
use Rattle.text.specs.Penned.{TailOf, line_of, LinesOf, TailPenned, LinePenned, LinesPenned}
use Rattle.text.proofs.Pens.{penned_none, penned_more}

-- no more lines than cells
pub lines_few : {g : Net} {t ls : List ℕ} {A c k : ℕ} {w : List ℕ} → Lines g t ls A c w k → k ≤ c
lines_few Lines.none = omega arith
lines_few (Lines.empty e x) = omega (arith, lines_few x)
lines_few (Lines.pair h p x) = omega (arith, lines_few x)

module _ (q : Query) where
  abbrev nodes : ℕ
  nodes = (checked_numbers q.checked).nodes

  module _ {i j : ℕ} where
    -- a line from its three pieces
    pub line_penned : {p r s t : Pen} {parts : Parts} {word len : ℕ} → parts ≡ parts_of word
        → word ≡ key_at q.checked q.head i j → len ≡ length_at q.checked q.head i j
        → Penned p r (pair_head i j parts.height parts.middle len) → TailPenned q i j r s → Penned s t (ascii "\n") → LinePenned q i j p t
    unfolding pair_line
    line_penned e f g x y z = record { tail = y.tail; of = y.of; penned = penned_more (penned_more (rw (e, f, g) at x) y.penned) z }

  pub lines_none : (p : Pen) → LinesPenned q 0 p p 0
  lines_none p = record { lines = _; each = Lines.none; penned = penned_none p }

  pair_behind : {c i j k : ℕ} {w tail : List ℕ} → c / nodes ≡ i → c % nodes ≡ j
      → key_at q.checked q.head i j < EMPTY → TailOf q i j tail
      → LinesOf q c w k
      → LinesOf q (suc c) (w ++ line_of q i j tail) (suc k)
  pair_behind {c} e f h p x = rw (← e, ← f) (Lines.pair {c = c} (rw (← e, ← f) at h) (rw (← e, ← f) at p) x)

  module _ {p r : Pen} {k : ℕ} where
    -- the same cells, counted otherwise
    pub lines_at : {c d : ℕ} → LinesPenned q c p r k → c ≡ d → LinesPenned q d p r k
    lines_at s e = rw (← e) s

    module _ (i j : ℕ) (below : j < nodes) (so : LinesPenned q (i * nodes + j) p r k) where
      -- an empty cell has no line
      pub lines_empty : key_at q.checked q.head i j ≡ EMPTY → LinesPenned q (i * nodes + (j + 1)) p r k
      lines_empty e = lines_at (record {
        lines = so.lines;
        each = Lines.empty {c = i * nodes + j} (rw (digits_div i below, digits_mod i below) e) so.each;
        penned = so.penned;
      }) (omega arith)

  -- a filled one has the next
  pub lines_more : {p r s : Pen} {k : ℕ} (i j : ℕ) → j < nodes → LinesPenned q (i * nodes + j) p r k
      → key_at q.checked q.head i j < EMPTY → LinePenned q i j r s
      → LinesPenned q (i * nodes + (j + 1)) p s (k + 1)
  lines_more {k = k} i j below so h x = rw (add-one k) (lines_at (record {
    lines = _;
    each = pair_behind (digits_div i below) (digits_mod i below) h x.of so.each;
    penned = penned_more so.penned x.penned;
  }) (omega arith))

  -- no more than 256
  pub lines_more_few : {i j k : ℕ} {p r : Pen} → i < nodes → j < nodes
      → LinesPenned q (i * nodes + j) p r k → k < 256
  lines_more_few {i} {j} hi hj s =
      let row : i ≤ 15 = omega (arith, q.small) in
      let rows : i * nodes ≤ 15 * 16 = mul-le-mul row q.small in
      omega (arith, lines_few s.each, q.small)
