-- A window of a path that is two paths one after the other, and the words of a buffer that two walks write. Assumes nothing.
use mathlib.Core.Path.{◌≡◌, refl, sym, ap, ◌∙◌}
use mathlib.Core.List.{List, [], ◌∷◌, ◌++◌, append-nil}
use Prim.Native.Nat.{ℕ, zero, suc, ◌+◌, ◌-◌, ◌≤◌, min}
use native.Mathlib.Omega.{arith}
use lib.ListN.{length, take, drop, length-append, length-take, length-drop, drop_of_length-le}
use lib.Seq.{take_all, drop-drop, take-nil, drop-nil, take-add}
use borrow.Rule.Slice.PartMut.{put_mid}
use Rattle.words.specs.Tab.{over}
use Rattle.words.proofs.Tab.{over-append, length_over, take-over, drop-over}
use Rattle.witness.specs.Answers.{part}
use Rattle.witness.specs.Walks.{WordsWritten}

sub-suc : (n m : ℕ) → suc n - suc m ≡ n - m
sub-suc n m = omega arith

take_both : (n : ℕ) (x y : List ℕ) → take n (x ++ y) ≡ take n x ++ take (n - length x) y
take_both n [] y = let e : n - 0 ≡ n = omega arith in rw (take-nil n, e)
take_both zero (a ∷ x) y = let e : 0 - suc (length x) ≡ 0 = omega arith in rw e
take_both (suc n) (a ∷ x) y = rw (sub-suc n (length x)) (ap (λ l. a ∷ l) (take_both n x y))

drop_both : (n : ℕ) (x y : List ℕ) → drop n (x ++ y) ≡ drop n x ++ drop (n - length x) y
drop_both n [] y = let e : n - 0 ≡ n = omega arith in rw (drop-nil n, e)
drop_both zero (a ∷ x) y = let e : 0 - suc (length x) ≡ 0 = omega arith in rw e
drop_both (suc n) (a ∷ x) y = rw (sub-suc n (length x)) (drop_both n x y)

pub part_count : (from n : ℕ) (p : List ℕ) → length (part from n p) ≡ min n (length p - from)
part_count from n p = rw (length-take, length-drop)

pub length_part : (from n : ℕ) (p : List ℕ) → length (part from n p) ≤ n
length_part from n p = omega (arith, part_count from n p)

-- the next window goes on where the last one ended
pub part_next : (from n m : ℕ) (p : List ℕ) → part from (n + m) p ≡ part from n p ++ part (from + n) m p
part_next from n m p = take-add n m (drop from p) ∙ ap (λ q. part from n p ++ take m q) (drop-drop n from p)

-- a window over two paths is the first one's, and in what it leaves free the second one's
pub part_both : (from n : ℕ) (x y : List ℕ)
    → part from n (x ++ y) ≡ part from n x ++ part (from - length x) (n - length (part from n x)) y
part_both from n x y =
    let e : n - length (drop from x) ≡ n - length (part from n x) = rw length-take (omega arith) in
    ap (take n) (drop_both from x y) ∙ take_both n (drop from x) (drop (from - length x) y)
    ∙ ap (λ k. part from n x ++ take k (drop (from - length x) y)) e

-- nothing is written
pub part_past : (from n : ℕ) (p : List ℕ) → length p ≤ from → part from n p ≡ []
part_past from n p h = rw (drop_of_length-le p h) (take-nil n)

-- the whole path
pub part_whole : (n : ℕ) (p : List ℕ) → length p ≤ n → part 0 n p ≡ p
part_whole n p h = take_all n p h

pub written_none : (l : List ℕ) → WordsWritten [] l l 0
unfolding over
written_none l = record { count = refl; words = refl }

-- the first walk writes x to the front of l, the second one y to the part that is left
module _ (x y l : List ℕ) (hx : length x ≤ length l) where
  rest : length (drop (length x) l) ≡ length l - length x
  rest = length-drop (length x) l

  pub left_free : take (length (over x l) - length x) (drop (length x) (over x l)) ≡ drop (length x) l
  left_free = rw (length_over x l hx, drop-over x l (length x) refl) (take_all (length l - length x) (drop (length x) l) (omega (arith, rest)))

  front_both : take (length x) (over x l) ++ over y (drop (length x) l) ≡ over (x ++ y) l
  front_both = rw (take-over x l (length x) refl) (sym (over-append x y l))

  pub put_both : put_mid (length x) (length (over x l) - length x) (over x l) (over y (drop (length x) l)) ≡ over (x ++ y) l
  put_both =
      let none : drop (length l - length x) (drop (length x) l) ≡ [] = drop_of_length-le (drop (length x) l) {i = length l - length x} (omega (arith, rest)) in
      rw (length_over x l hx, drop-over x l (length x) refl, none, append-nil) front_both

-- the two walks together
module _ (from : ℕ) (x y l : List ℕ) where
  abbrev X : List ℕ
  X = part from (length l) x

  hx : length X ≤ length l
  hx = length_part from (length l) x

  both : (l₂ : List ℕ) (v : ℕ) → WordsWritten (part (from - length x) (length (drop (length X) l)) y) (drop (length X) l) l₂ v
      → WordsWritten (part from (length l) (x ++ y)) l (put_mid (length X) (length (over X l) - length X) (over X l) l₂) (length X + v)
  both l₂ v b =
      let Y = part (from - length x) (length (drop (length X) l)) y in
      let e : part from (length l) (x ++ y) ≡ X ++ Y = part_both from (length l) x y ∙ rw (length-drop (length X) l) in
      record { count = rw (e, length-append, b.count); words = rw (e, b.words) (put_both X Y l hx) }

  pub written_both : (l₁ l₂ : List ℕ) (w v : ℕ) → WordsWritten X l l₁ w
      → WordsWritten (part (from - length x) (length (take (length l₁ - w) (drop w l₁))) y) (take (length l₁ - w) (drop w l₁)) l₂ v
      → WordsWritten (part from (length l) (x ++ y)) l (put_mid w (length l₁ - w) l₁ l₂) (w + v)
  written_both l₁ l₂ w v a b =
      rw (a.words, a.count) (both l₂ v (rw (a.words, a.count, left_free X y l hx) at b))
