-- The path in the bytes, window by window. Assumes nothing.
use mathlib.Core.Path.{◌≡◌, refl, sym, ap, ◌∙◌}
use mathlib.Core.List.{List, ◌++◌, append-nil}
use Prim.Native.Nat.{ℕ, ◌+◌, ◌-◌, ◌*◌, ◌/◌, ◌≤◌}
use native.Mathlib.Omega.{arith}
use lib.ListN.{length, take, drop, length-drop, drop_of_length-le}
use lib.Seq.{take_at, drop_at, take_all, take-add, length-take-le}
use borrow.Rule.Slice.PartMut.{mid_of, put_mid}
use Rattle.words.specs.Tab.{over}
use Rattle.packing.specs.Packed.{packed, packed_into}
use Rattle.words.proofs.Tab.{over_none, take-over}
use Rattle.std.specs.Prelude.{Ok}
use Rattle.packing.proofs.Packed.{length-packed, pack_behind}
use Rattle.meaning.specs.Net.{Net}
use Rattle.meaning.specs.Table.{at}
use Rattle.meaning.specs.Lengths.{Recorded}
use Rattle.meaning.proofs.Recorded.{recorded_one}
use Rattle.numbers.specs.declared.Numbers.{Numbers}
use Rattle.lists.specs.Lists.{net}
use Rattle.words.specs.Refusals.{Check, Good}
use Rattle.witness.specs.Answers.{window_check, part, Answered}
use Rattle.witness.proofs.Windows.{part_count}
use Rattle.witness.proofs.Writes.{window_sane, window_path}
use Rattle.nevelknop.specs.Inner.{OneWindow}
use Rattle.nevelknop.proofs.Lent.{packs}

-- ---- one window

-- what is put into the rest of a list, from position a on
put_rest : (a : ℕ) (xs ys : List ℕ) → put_mid a (length xs - a) xs ys ≡ take a xs ++ ys
put_rest a xs ys = rw (drop_of_length-le (drop a xs) {i = length xs - a} (rw length-drop (omega arith)), append-nil)

rest_of : (a : ℕ) (xs : List ℕ) → mid_of a (length xs - a) xs ≡ drop a xs
rest_of a xs = take_all (length xs - a) (drop a xs) (rw length-drop (omega arith))

pub answer_short : {g : Net} {t : List ℕ} {A i j : ℕ} {check : Check} {entry exit : List ℕ} (from n : ℕ) {r : ℕ}
    → Answered g t A i j check (part from n) entry exit (Ok r) → r ≤ n
answer_short from n (Answered.wrote p good way count words) = omega (arith, count, part_count from n p)

-- as many words are at the front of an array of n
pub answer_front : {g : Net} {t : List ℕ} {A i j : ℕ} {check : Check} {entry exit : List ℕ} (from n : ℕ) {r : ℕ}
    → Answered g t A i j check (part from n) entry exit (Ok r) → length exit ≡ n → r ≡ length (take r exit)
answer_front from n {r} h e = sym (length-take-le r _ (omega (arith, answer_short from n h)))

module _ (numbers : Numbers) (rules edges t ls : List ℕ) (a i j : ℕ) where
  abbrev g : Net
  g = net numbers rules edges

  abbrev check : Check
  check = window_check numbers rules edges a i j t ls

  -- its words, packed behind the edges before it
  pub one_window : (from : ℕ) {r : ℕ} {entry exit path rest : List ℕ} → Answered g t a i j check (part from 16384) entry exit (Ok r)
      → rest ≡ packed_into 2 (take r exit) (mid_of (2 * from) (length path - 2 * from) path)
      → OneWindow g t a i j from path (put_mid (2 * from) (length path - 2 * from) path rest)
  one_window from {r} {entry} {exit} {path} (Answered.wrote q good way count words) e =
      let w = part from 16384 q in
      let f : take r exit ≡ w = rw (words, count) (take-over w entry (length w) refl) in
      record {
        bytes = λ p by. put_rest (2 * from) path _
            ∙ rw (e, rest_of (2 * from) path, f, recorded_one (window_sane numbers rules edges t ls a i j good) way by);
      }

  -- the length of the path is the recorded one
  pub path_long : check ≡ Good → {many : ℕ} → many ≡ at numbers.nodes ls a i j → (p : List ℕ) → Recorded g t a i j p → length p ≡ many
  path_long good e p way =
      let x = window_path numbers rules edges t ls a i j good in
      ap length (recorded_one (window_sane numbers rules edges t ls a i j good) way x.recorded) ∙ x.long ∙ sym e

-- ---- the loop over windows, where `from` edges are written

pub record PartPacked (g : Net) (t : List ℕ) (A i j : ℕ) (path₀ path : List ℕ) (from : ℕ) : Type 0 where
  pub same : length path ≡ length path₀
  pub bytes : (p : List ℕ) → Recorded g t A i j p → path ≡ over (packed 2 (take from p)) path₀

module _ {g : Net} {t : List ℕ} {A i j : ℕ} where
  pub packed_none : (path : List ℕ) → PartPacked g t A i j path path 0
  unfolding packed
  packed_none path = record { same = refl; bytes = λ p w. sym (over_none path) }

  module _ {many : ℕ} {path₀ path : List ℕ} {from : ℕ} (long : (p : List ℕ) → Recorded g t A i j p → length p ≡ many)
      (w : PartPacked g t A i j path₀ path from) where
    pub packed_all : many ≤ from → (p : List ℕ) → Recorded g t A i j p → path ≡ over (packed 2 p) path₀
    packed_all h p way = w.bytes p way ∙ rw (take_all from p (omega (arith, long p way)))

    pub packed_more : {path' : List ℕ} (next : ℕ) → 2 * many ≤ length path₀ → from ≤ many → next ≡ from + 16384 → length path' ≡ length path
        → OneWindow g t A i j from path path' → PartPacked g t A i j path₀ path' next
    unfolding over
    packed_more {path'} next room h n e o = record { same = e ∙ w.same; bytes = more }
      where
        more : (p : List ℕ) → Recorded g t A i j p → path' ≡ over (packed 2 (take next p)) path₀
        more p way =
            let f = take from p in
            let q = part from 16384 p in
            let d = drop (2 * from) path₀ in
            let lf : length f ≡ from = length-take-le from p (omega (arith, long p way)) in
            let lp : length (packed 2 f) ≡ 2 * from = length-packed 2 f ∙ rw lf in
            let lq = part_count from 16384 p in
            let is : path ≡ packed 2 f ++ d = w.bytes p way ∙ rw lp in
            let fits : length q ≤ length d / 2 = rw length-drop (omega (arith, lq, long p way)) in
            let b : take next p ≡ f ++ q = rw n (take-add from 16384 p) in
            o.bytes p way
            ∙ rw (is, take_at (packed 2 f) d (2 * from) lp, drop_at (packed 2 f) d (2 * from) lp, packs 2 q d fits, b)
            (sym (pack_behind 2 f q path₀ ∙ rw lf))
