-- Laws of lists made index by index, and of lists whose front is written. Assumes nothing.
use mathlib.Core.List.{List, [], ◌∷◌, ◌++◌, append_assoc}
use mathlib.Core.Path.{◌≡◌, refl, sym, ◌∙◌}
use mathlib.Core.Logic.{⊎_elim}
use Prim.Native.Nat.{ℕ, zero, suc, ◌+◌, ◌-◌, ◌≤◌, ◌<◌}
use native.Mathlib.Nat.{eq-or-lt_of_le, le_of_suc-le-suc, not-suc-le-zero, add-sub_of_le}
use native.Mathlib.Numerals.{add-one}
use native.Mathlib.Omega.{arith}
use lib.Dec.{ltb}
use lib.ListN.{length, get_or, set, take, drop, replicate, length-append, length-drop, length-replicate, get_or-replicate, get_or-append}
use lib.Seq.{take_at, drop_at, drop-cons, drop-drop, set_at, get_or_at, get_or-drop, get_or-append-add, ext_get_or}
use borrow.Author.Fill.{fill_more}
use borrow.Author.Tests.{ltb-true, ltb-false}
use borrow.Table.Steps.{cases}
use Rattle.words.specs.Tab.{tab, over}

-- ---- f 0, f 1, .., f (n - 1)

pub length-tab : (f : ℕ → ℕ) (n : ℕ) → length (tab f n) ≡ n
unfolding tab
length-tab f zero = refl
length-tab f (suc n) = rw (length-append, length-tab f n) (omega arith)

pub get_or-tab : (f : ℕ → ℕ) (n i : ℕ) → i < n → get_or (tab f n) i 0 ≡ f i
unfolding tab
get_or-tab f zero i h = absurd (not-suc-le-zero h)
get_or-tab f (suc n) i h =
    ⊎_elim
    (λ e. rw e (get_or_at (tab f n) (f n) [] 0 n (length-tab f n)))
    (λ l. get_or-append (tab f n) (f n ∷ []) 0 i (omega (arith, length-tab f n)) ∙ get_or-tab f n i l)
    (eq-or-lt_of_le (le_of_suc-le-suc h))

-- one more element
pub tab_more : (f : ℕ → ℕ) (n : ℕ) → tab f (n + 1) ≡ tab f n ++ (f n ∷ [])
unfolding tab
tab_more f n = rw add-one

-- a list is the one that its elements say
pub tab_is : (f : ℕ → ℕ) (n : ℕ) (l : List ℕ) → length l ≡ n → ((i : ℕ) → i < n → get_or l i 0 ≡ f i) → l ≡ tab f n
tab_is f n l e h =
    ext_get_or 0 l (tab f n) (e ∙ sym (length-tab f n)) (λ i b. h i (omega arith) ∙ sym (get_or-tab f n i (omega arith)))

-- ---- w, then the rest of l as it was

pub over_none : (l : List ℕ) → over [] l ≡ l
unfolding over
over_none l = refl

-- two fronts, one behind the other
pub over-append : (w v l : List ℕ) → over (w ++ v) l ≡ w ++ over v (drop (length w) l)
unfolding over
over-append w v l = rw (length-append, append_assoc, drop-drop)

module _ (w l : List ℕ) where
  pub length_over : length w ≤ length l → length (over w l) ≡ length l
  unfolding over
  length_over h = rw (length-append, length-drop) (omega arith)

  pub over_fits : length w ≤ length (over w l)
  unfolding over
  over_fits = rw length-append (omega arith)

  pub take-over : (n : ℕ) → length w ≡ n → take n (over w l) ≡ w
  unfolding over
  take-over n e = take_at w _ n e

  pub drop-over : (n : ℕ) → length w ≡ n → drop n (over w l) ≡ drop n l
  unfolding over
  drop-over n e = drop_at w _ n e ∙ rw e

  pub get_or-over : (i : ℕ) → i < length w → get_or (over w l) i 0 ≡ get_or w i 0
  unfolding over
  get_or-over i h = get_or-append w (drop (length w) l) 0 i h

  pub get_or-over_past : (i : ℕ) → length w ≤ i → get_or (over w l) i 0 ≡ get_or l i 0
  unfolding over
  get_or-over_past i h =
      rw (← add-sub_of_le h) (get_or-append-add w (drop (length w) l) (i - length w) 0 ∙ get_or-drop (length w) l (i - length w) 0)

  -- the same, index by index
  pub over_each :
      (r : List ℕ) →
      length w ≤ length l →
      length r ≡ length l →
      ((i : ℕ) → i < length w → get_or r i 0 ≡ get_or w i 0) →
      ((i : ℕ) → length w ≤ i → get_or r i 0 ≡ get_or l i 0) →
      r ≡ over w l
  over_each r h e front rest =
      ext_get_or 0 r (over w l) (e ∙ sym (length_over h))
      (λ i _.
      cases (ltb i (length w))
      (λ t. let b = ltb-true i (length w) t in front i b ∙ sym (get_or-over i b))
      (λ f. let b = ltb-false i (length w) f in rest i b ∙ sym (get_or-over_past i b)))

-- ---- f 0, f 1, .., f (n - 1), then the rest of l as it was: what a loop has written after n turns

module _ (f : ℕ → ℕ) (n : ℕ) (l : List ℕ) where
  -- one more turn
  pub over_more : n < length l → set (over (tab f n) l) n (f n) ≡ over (tab f (n + 1)) l
  unfolding over
  over_more h =
      rw (length-tab f n, length-tab f (n + 1), tab_more f n, drop-cons l n 0, append_assoc, add-one)
      (set_at (tab f n) (get_or l n 0) (drop (suc n) l) (f n) n (length-tab f n))

-- ---- n times v, then the rest of l as it was: what a loop that fills has written after n turns

module _ (n v : ℕ) (l : List ℕ) where
  -- one more turn
  pub fill_next : n < length l → set (over (replicate n v) l) n v ≡ over (replicate (n + 1) v) l
  unfolding over
  fill_next h = rw (length-replicate n v, length-replicate (n + 1) v) (fill_more n v l h)

  pub length-fill : n ≤ length l → length (over (replicate n v) l) ≡ length l
  length-fill h = length_over (replicate n v) l (rw length-replicate h)

  pub get_or-fill : (i : ℕ) → i < n → get_or (over (replicate n v) l) i 0 ≡ v
  get_or-fill i h = get_or-over (replicate n v) l i (rw length-replicate h) ∙ get_or-replicate n i v 0 h

  pub drop-fill : drop n (over (replicate n v) l) ≡ drop n l
  drop-fill = drop-over (replicate n v) l n (length-replicate n v)
