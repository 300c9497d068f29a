-- Laws of little-endian numbers in a list of bytes, once over the size: words of 16, 32 and 64 bits cite the same law. Assumes nothing.
use mathlib.Core.List.{List}
use mathlib.Core.Path.{◌≡◌, refl, ◌∙◌}
use Prim.Native.Nat.{ℕ, zero, suc, ◌+◌, ◌-◌, ◌*◌, ◌/◌, ◌%◌, ◌^◌, ◌≤◌, ◌<◌}
use native.Mathlib.Nat.{zero-add, add-zero, suc-add, add_assoc, mul_assoc, pow-zero, pow-suc, pow-succ', pow-le-pow_right, one-le-pow, lt_of_lt_of_le, div-one, div-div-eq-div-mul}
use native.Mathlib.Numerals.{one-add}
use native.Mathlib.Omega.{arith}
use lib.Arith.{mod-mul}
use lib.Dec.{lit<}
use lib.ListN.{length, get_or, set, length-set, get_or-eq_default}
use lib.Seq.{get_or-set_same, get_or-set_other, set-get_or, set_out}
use Rattle.words.specs.Bytes.{le_at, put_le}

-- ---- a number that is read

-- its low part and its high part
pub le_at_join : (m n : ℕ) (s : List ℕ) (p : ℕ) → le_at (m + n) s p ≡ le_at m s p + 256 ^ m * le_at n s (p + m)
unfolding le_at
le_at_join zero n s p = rw (zero-add n, add-zero p, pow-zero) (omega arith)
le_at_join (suc m) n s p =
    rw (suc-add m n, pow-succ', le_at_join m n s (p + 1), add_assoc p 1 m, one-add, mul_assoc)
    (omega arith)

-- bytes make a number that fits in as many bytes
pub le_at_lt : (n : ℕ) (s : List ℕ) (p : ℕ) → ((i : ℕ) → get_or s i 0 < 256) → le_at n s p < 256 ^ n
unfolding le_at
le_at_lt zero s p b = rw pow-zero (lit< tt)
le_at_lt (suc n) s p b = rw pow-suc (omega (arith, b p, le_at_lt n s (p + 1) b))

-- a number of at most eight bytes whose lowest is still to come has room for it in 64 bits
pub le_at_room :
    (n k : ℕ) (s : List ℕ) (p : ℕ) →
    ((i : ℕ) → get_or s i 0 < 256) →
    n ≤ 8 →
    0 < k →
    le_at (n - k) s (p + k) < 256 ^ 7
le_at_room n k s p b h r =
    let few : n - k ≤ 7 = omega arith in
    lt_of_lt_of_le (le_at_lt (n - k) s (p + k) b) (pow-le-pow_right (lit< tt) few)

-- what code does: from the highest byte down; no byte yet
pub le_at_none : (n k : ℕ) (s : List ℕ) (p : ℕ) → n ≤ k → le_at (n - k) s p ≡ 0
unfolding le_at
le_at_none n k s p h = let e : n - k ≡ 0 = omega arith in rw e

-- one byte more
pub le_at_more :
    (n k : ℕ) (s : List ℕ) (p : ℕ) →
    0 < k → k ≤ n →
    le_at (n - (k - 1)) s (p + (k - 1)) ≡ le_at (n - k) s (p + k) * 256 + get_or s (p + (k - 1)) 0
unfolding le_at
le_at_more n k s p h r =
    let a : n - (k - 1) ≡ suc (n - k) = omega arith in
    let b : p + (k - 1) + 1 ≡ p + k = omega arith in
    rw (a, b) (omega arith)

-- past the end
pub le_at_past : (n : ℕ) (s : List ℕ) (p : ℕ) → length s ≤ p → le_at n s p ≡ 0
unfolding le_at
le_at_past zero s p h = refl
le_at_past (suc n) s p h = rw (get_or-eq_default s 0 h, le_at_past n s (p + 1) (omega arith))

-- ---- a number that is written

-- what code does: from the lowest byte up; no byte left
pub put_le_none : (n k : ℕ) (s : List ℕ) (p x : ℕ) → n ≤ k → put_le (n - k) s p x ≡ s
unfolding put_le
put_le_none n k s p x h = let e : n - k ≡ 0 = omega arith in rw e

-- one byte more
pub put_le_more :
    (n k : ℕ) (s : List ℕ) (p x : ℕ) →
    k < n →
    put_le (n - (k + 1)) (set s (p + k) (x % 256)) (p + (k + 1)) (x / 256) ≡ put_le (n - k) s (p + k) x
unfolding put_le
put_le_more n k s p x h =
    let a : n - k ≡ suc (n - (k + 1)) = omega arith in
    rw (a, ← add_assoc p k 1)

-- its low part, and behind it its high part
pub put_le_join :
    (m n : ℕ) (s : List ℕ) (p x : ℕ) →
    put_le (m + n) s p x ≡ put_le n (put_le m s p x) (p + m) (x / 256 ^ m)
unfolding put_le
put_le_join zero n s p x = rw (zero-add, add-zero, pow-zero, div-one)
put_le_join (suc m) n s p x =
    rw (suc-add m n, put_le_join m n (set s p (x % 256)) (p + 1) (x / 256), add_assoc p 1 m, one-add, div-div-eq-div-mul x 256 (256 ^ m), ← pow-succ' 256 m)

-- the two low digits of x, to the bases 256 and 256 ^ n
low : (n x : ℕ) → x % 256 ^ suc n ≡ x / 256 % 256 ^ n * 256 + x % 256
low n x = rw pow-suc (mod-mul x (one-le-pow n 256 (lit< tt)) (lit< tt))

-- only the n lowest bytes of x count
pub put_le_mod : (n : ℕ) (s : List ℕ) (p x : ℕ) → put_le n s p (x % 256 ^ n) ≡ put_le n s p x
unfolding put_le
put_le_mod zero s p x = refl
put_le_mod (suc n) s p x =
    let q = low n x in
    let lo : x % 256 ^ suc n % 256 ≡ x % 256 = omega (arith, q) in
    let hi : x % 256 ^ suc n / 256 ≡ x / 256 % 256 ^ n = omega (arith, q) in
    rw (lo, hi) (put_le_mod n (set s p (x % 256)) (p + 1) (x / 256))

pub length-put_le : (n : ℕ) (s : List ℕ) (p x : ℕ) → length (put_le n s p x) ≡ length s
unfolding put_le
length-put_le zero s p x = refl
length-put_le (suc n) s p x = length-put_le n (set s p (x % 256)) (p + 1) (x / 256) ∙ length-set s p (x % 256)

-- past the end
pub put_le_past : (n : ℕ) (s : List ℕ) (p x : ℕ) → length s ≤ p → put_le n s p x ≡ s
unfolding put_le
put_le_past zero s p x h = refl
put_le_past (suc n) s p x h = rw (set_out s p (x % 256) h) (put_le_past n s (p + 1) (x / 256) (omega arith))

-- the positions before it keep their values
pub get_or-put_le_before : (n : ℕ) (s : List ℕ) (p x i : ℕ) → i < p → get_or (put_le n s p x) i 0 ≡ get_or s i 0
unfolding put_le
get_or-put_le_before zero s p x i h = refl
get_or-put_le_before (suc n) s p x i h =
    get_or-put_le_before n (set s p (x % 256)) (p + 1) (x / 256) i (omega arith)
    ∙ get_or-set_other s p i (x % 256) 0 (omega arith)

-- ---- both

-- what was written is read
pub le_at-put_le : (n : ℕ) (s : List ℕ) (p x : ℕ) → p + n ≤ length s → le_at n (put_le n s p x) p ≡ x % 256 ^ n
unfolding le_at put_le
le_at-put_le zero s p x h = rw pow-zero (omega arith)
le_at-put_le (suc n) s p x h =
    let t = set s p (x % 256) in
    let lo = get_or-put_le_before n t (p + 1) (x / 256) p (omega arith) ∙ get_or-set_same s p (x % 256) 0 (omega arith) in
    let hi = le_at-put_le n t (p + 1) (x / 256) (omega (arith, length-set s p (x % 256))) in
    omega (arith, low n x, lo, hi)

-- what was read is written: nothing changes
pub put_le-le_at : (n : ℕ) (s : List ℕ) (p : ℕ) → ((i : ℕ) → get_or s i 0 < 256) → put_le n s p (le_at n s p) ≡ s
unfolding le_at put_le
put_le-le_at zero s p b = refl
put_le-le_at (suc n) s p b =
    let r = le_at n s (p + 1) in
    let lo : (get_or s p 0 + 256 * r) % 256 ≡ get_or s p 0 = omega (arith, b p) in
    let hi : (get_or s p 0 + 256 * r) / 256 ≡ r = omega (arith, b p) in
    rw (lo, hi, set-get_or s p 0) (put_le-le_at n s (p + 1) b)
