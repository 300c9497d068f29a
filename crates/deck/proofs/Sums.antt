-- A sum of bytes as that of a slice, one block more of a total, a list whose front is written. Assumes nothing.
use mathlib.Core.List.{List, ◌++◌}
use mathlib.Core.Path.{◌≡◌, refl, ◌∙◌}
use Prim.Native.Nat.{ℕ, zero, suc, ◌+◌, ◌≤◌, ◌<◌}
use native.Mathlib.Numerals.{add-one}
use native.Mathlib.Omega.{arith}
use lib.ListN.{length, get_or, set, take, drop}
use lib.Seq.{get_or-set_same, get_or-set_other}
use lib.Dec.{eqb}
use borrow.Author.Tests.{eqb-true, eqb-false}
use borrow.Table.Steps.{cases}
use Rattle.std.specs.Prelude.{sum}
use Rattle.std.proofs.lemmas.List.{length-drop, get_or-drop}
use Rattle.std.proofs.lemmas.List.Sums.{fold_more}
use Rattle.words.specs.Tab.{tab, over}
use Rattle.words.proofs.Tab.{length-tab, tab_is}
use Rattle.deck.specs.Blocks.{sum_at, records_in, total}

-- the sum of the n bytes from p on
pub sum_bytes : (n : ℕ) (d : List ℕ) (p : ℕ) → p + n ≤ length d → sum (take n (drop p d)) ≡ sum_at n d p
unfolding sum_at
sum_bytes zero d p h = refl
sum_bytes (suc n) d p h =
    let room : n < length (drop p d) = omega (arith, length-drop p d) in
    let more = rw add-one at (fold_more ◌+◌ 0 (drop p d) n 0 room) in
    let rest = sum_bytes n d p (omega arith) in
    rw (more, rest, get_or-drop p d n 0)

pub total_more : (d : List ℕ) (t n : ℕ) → total d t (n + 1) ≡ total d t n + records_in d t n
unfolding total
total_more d t n = rw (add-one n)

-- a list whose front has been written
pub front_is : (f : ℕ → ℕ) (n : ℕ) (w l : List ℕ) → length w ≡ n → ((k : ℕ) → k < n → get_or w k 0 ≡ f k) → w ++ drop n l ≡ over (tab f n) l
unfolding over
front_is f n w l e h = rw (tab_is f n w e h, length-tab f n)

-- one word more of a list that is written from its front
pub set_more :
    (f : ℕ → ℕ) (l : List ℕ) (m v : ℕ) →
    m < length l →
    ((k : ℕ) → k < m → get_or l k 0 ≡ f k) →
    v ≡ f m →
    (k : ℕ) → k < m + 1 → get_or (set l m v) k 0 ≡ f k
set_more f l m v h below here k b =
    cases (eqb k m)
    (λ t. let e = eqb-true k m t in rw e (get_or-set_same l m v 0 h ∙ here))
    (λ t. let n = eqb-false k m t in get_or-set_other l m k v 0 n ∙ below k (omega arith))
