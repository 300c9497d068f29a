-- How long the report's text is at most: `ROOM` has room for it. Assumes nothing.
use mathlib.Core.Path.{◌≡◌, refl}
use mathlib.Core.List.{List}
use Prim.Native.Nat.{ℕ, ◌*◌, ◌/◌, ◌%◌, ◌≤◌}
use native.Mathlib.Nat.{mul-le-mul}
use native.Mathlib.Omega.{arith}
use lib.ListN.{length, length-append}
use Rattle.meaning.specs.Net.{Net, Sane}
use Rattle.key.specs.Keys.{height_of, middle_of}
use Rattle.meaning.specs.Table.{at, cells}
use Rattle.meaning.specs.Final.{FinalTable}
use Rattle.meaning.specs.Lengths.{Lengths, Recorded, depth}
use Rattle.meaning.proofs.Recorded.{recorded_length}
use Rattle.meaning.proofs.Right.{final_right}
use Rattle.lists.proofs.Right.{accepted, sane}
use Rattle.deck.specs.declared.Header.{Header}
use Rattle.deck.specs.Reads.{numbers_in, header_of, rules_of, edges_of}
use Rattle.text.specs.Text.{ascii, path_text, pair_head, opening_line, closing_line, refused_line}
use Rattle.text.specs.Pairs.{Tail, pair_line, Lines}
use Rattle.text.specs.Report.{ROOM, report_check, net_in, Whole, Reported, Report}
use Rattle.text.specs.Penned.{Small}
use Rattle.text.proofs.Reports.{report_small}
use Rattle.text.proofs.Decimals.{digits_few, digits_fewer}
use Rattle.text.proofs.Paths.{path_append}
use Rattle.words.specs.Refusals.{Check, number_of}
use Rattle.std.specs.Prelude.{Ok, Err}

opening_few : (a b c d : ℕ) → length (opening_line a b c d) ≤ 200
unfolding opening_line ascii
opening_few a b c d = simp length-append (omega (arith, digits_few 20 a, digits_few 20 b, digits_few 20 c, digits_few 20 d))

closing_few : (a b : ℕ) → length (closing_line a b) ≤ 200
unfolding closing_line ascii
closing_few a b = simp length-append (omega (arith, digits_few 20 a, digits_few 20 b))

refused_few : (a b : ℕ) → length (refused_line a b) ≤ 200
unfolding refused_line ascii
refused_few a b = simp length-append (omega (arith, digits_few 20 a, digits_few 20 b))

head_few : (a b c d e : ℕ) → length (pair_head a b c d e) ≤ 120
unfolding pair_head ascii
head_few a b c d e = simp length-append (omega (arith, digits_few 20 a, digits_few 20 b, digits_few 20 c, digits_few 20 d, digits_few 20 e))

module _ {g : Net} (ok : Sane g) (edges : length g.edges / 3 ≤ 65536) {t ls : List ℕ} (final : FinalTable g t) (measured : Lengths g t ls) where
  -- six bytes for each edge of a recorded path
  path_few : {A i j : ℕ} {p : List ℕ} → Recorded g t A i j p → length (path_text p) ≤ 6 * length p
  unfolding path_text ascii
  path_few (Recorded.leaf {e = e} h l d) = simp length-append (omega (arith, digits_fewer 20 4 e (omega (arith, d.edge.inside))))
  path_few (Recorded.pair {p = p} {q = q} n r m u v) =
      rw (path_append p q, length-append {A = ℕ} p q, length-append {A = ℕ} (path_text p) (path_text q)) (omega (arith, path_few u, path_few v))

  module _ {A : ℕ} where
    tail_few : {i j : ℕ} {w : List ℕ} → Tail g t ls A i j w → length w ≤ 6144
    unfolding ascii
    tail_few (Tail.shown h r) = omega (arith, path_few r, recorded_length ok (final_right ok final measured) r (omega arith))
    tail_few (Tail.long h) = omega arith

    lines_room : {c k : ℕ} {w : List ℕ} → Lines g t ls A c w k → length w ≤ 6400 * c
    unfolding pair_line ascii
    lines_room Lines.none = omega arith
    lines_room (Lines.empty e x) = omega (arith, lines_room x)
    lines_room (Lines.pair {c = c} h p x) =
        let i = c / g.nodes in
        let j = c % g.nodes in
        let key = at g.nodes t A i j in
        let head = head_few i j (height_of key) (middle_of key) (at g.nodes ls A i j) in
        simp length-append (omega (arith, lines_room x, tail_few p, head))

whole_room : {h : Header} {rules edges w : List ℕ} → Small h rules edges → Whole h rules edges w → length w ≤ ROOM
whole_room {h} {rules} {edges} small x =
    let deep = depth x.table (cells (net_in h rules edges)) in
    let right = accepted (numbers_in h) rules edges small.lists in
    let lines = lines_room (sane _ _ _ right) (omega (arith, right.many_edges)) x.final x.measured x.each in
    rw (x.is, length-append, length-append)
    (omega (arith, lines, mul-le-mul small.nodes small.nodes, opening_few h.nodes h.edges h.nonterminals h.rules, closing_few x.pairs deep))

-- ROOM has room for the report of every deck
pub report_room : (d w : List ℕ) → Report d w → length w ≤ ROOM
report_room d w x = go (report_check d) refl x
  where
    go : (c : Check) → report_check d ≡ c → Reported c (header_of d) (rules_of d) (edges_of d) w → length w ≤ ROOM
    go (Ok tt) e p = whole_room (report_small d e) p
    go (Err r) e p = rw p (omega (arith, refused_few (number_of r.reason) r.place))
