-- Laws of lists of words in bytes, once over the size of a word. Assumes nothing.
use mathlib.Core.List.{List, [], ◌∷◌, ◌++◌, map, append_assoc, append-nil}
use mathlib.Core.Path.{◌≡◌, refl, sym, ap, ◌∙◌}
use Prim.Native.Nat.{ℕ, zero, suc, ◌+◌, ◌*◌, ◌/◌, ◌%◌, ◌^◌, ◌≤◌, ◌<◌}
use native.Mathlib.Nat.{add_assoc, add-zero, mul-zero, mul-suc, mul-le-mul_left, mul-div-le, mod-eq_of_lt}
use native.Mathlib.Numerals.{add-one, one-add}
use native.Mathlib.Omega.{arith}
use lib.ListN.{length, get_or, set, take, drop, length-append, length-drop, length-set, take-append-drop}
use lib.Seq.{split_at, take-suc, take-suc-set, drop-set-lt, drop-cons, take-append_seam, drop-append_seam, drop-append-add, take-add, length-take-le}
use Rattle.std.proofs.lemmas.List.{map-set, get_or-map, length-map}
use Rattle.words.specs.Bytes.{le_at, put_le}
use Rattle.words.specs.Tab.{tab, over}
use Rattle.packing.specs.Packed.{unpacked, le_bytes, packed}
use Rattle.words.proofs.Bytes.{le_at-put_le}
use Rattle.words.proofs.Tab.{tab_is, over_none, over_more, over-append}

-- ---- lengths

pub length-le_bytes : (k x : ℕ) → length (le_bytes k x) ≡ k
unfolding le_bytes
length-le_bytes zero x = refl
length-le_bytes (suc k) x = ap suc (length-le_bytes k (x / 256))

pub length-packed : (k : ℕ) (ws : List ℕ) → length (packed k ws) ≡ k * length ws
unfolding packed
length-packed k [] = sym (mul-zero k)
length-packed k (w ∷ ws) = rw (length-append, length-le_bytes, length-packed k ws, mul-suc) (omega arith)

-- ---- one list behind another

pub packed-append : (k : ℕ) (ws vs : List ℕ) → packed k (ws ++ vs) ≡ packed k ws ++ packed k vs
unfolding packed
packed-append k [] vs = refl
packed-append k (w ∷ ws) vs = rw (packed-append k ws vs, append_assoc)

-- ---- one word

packed_one : (k w : ℕ) → packed k (w ∷ []) ≡ le_bytes k w
unfolding packed
packed_one k w = append-nil (le_bytes k w)

-- a number that is written where there is room: what is before it, its bytes, what is behind it
pub put_le-bytes :
    (k : ℕ) (s : List ℕ) (p x : ℕ) →
    p + k ≤ length s →
    put_le k s p x ≡ take p s ++ (le_bytes k x ++ drop (p + k) s)
unfolding put_le le_bytes
put_le-bytes zero s p x h = rw add-zero (sym (take-append-drop p s))
put_le-bytes (suc k) s p x h =
    let b = x % 256 in
    put_le-bytes k (set s p b) (p + 1) (x / 256) (omega (arith, length-set s p b))
    ∙ rw (add_assoc, one-add, add-one, take-suc-set s p b (omega arith), drop-set-lt (p + suc k) s p b (omega arith), append_assoc)

-- behind a list a
put_le_behind : (k : ℕ) (a d : List ℕ) (x : ℕ) → k ≤ length d → put_le k (a ++ d) (length a) x ≡ a ++ over (le_bytes k x) d
unfolding over
put_le_behind k a d x h =
    put_le-bytes k (a ++ d) (length a) x (rw length-append (omega arith))
    ∙ rw (take-append_seam, drop-append-add a d k, length-le_bytes)

-- the bytes of a number are read
le_at-bytes : (k : ℕ) (a b : List ℕ) (x : ℕ) → le_at k (a ++ (le_bytes k x ++ b)) (length a) ≡ x % 256 ^ k
unfolding over
le_at-bytes k a b x =
    let d = le_bytes k x ++ b in
    let e : length d ≡ k + length b = rw (length-append, length-le_bytes) in
    let w : put_le k (a ++ d) (length a) x ≡ a ++ d =
    put_le_behind k a d x (omega arith) ∙ rw drop-append_seam in
    rw w at (le_at-put_le k (a ++ d) (length a) x (rw length-append (omega arith)))

-- the bytes of a number that was read
bytes-le_at :
    (k : ℕ) (s : List ℕ) (p : ℕ) →
    ((i : ℕ) → get_or s i 0 < 256) →
    p + k ≤ length s →
    le_bytes k (le_at k s p) ≡ take k (drop p s)
unfolding le_at le_bytes
bytes-le_at zero s p b h = refl
bytes-le_at (suc k) s p b h =
    let r = le_at k s (p + 1) in
    let lo : (get_or s p 0 + 256 * r) % 256 ≡ get_or s p 0 = omega (arith, b p) in
    let hi : (get_or s p 0 + 256 * r) / 256 ≡ r = omega (arith, b p) in
    rw (lo, hi, bytes-le_at k s (p + 1) b (omega arith), drop-cons s p 0 (omega arith), add-one)

-- ---- a list of words

-- one word more is packed
pack_more :
    (k : ℕ) (ws s : List ℕ) (i : ℕ) →
    i < length ws →
    k * (i + 1) ≤ length s →
    put_le k (over (packed k (take i ws)) s) (k * i) (get_or ws i 0) ≡ over (packed k (take (i + 1) ws)) s
unfolding over
pack_more k ws s i h r =
    let a = packed k (take i ws) in
    let e : length a ≡ k * i = length-packed k (take i ws) ∙ rw (length-take-le i ws (omega arith)) in
    let m : k * (i + 1) ≡ k * i + k = rw (add-one, mul-suc) (omega arith) in
    rw (← e, add-one, take-suc ws i 0, packed-append, packed_one)
    (put_le_behind k a (drop (length a) s) (get_or ws i 0) (rw length-drop (omega arith)) ∙ sym (over-append a (le_bytes k (get_or ws i 0)) s))

-- a list of words behind another
pub pack_behind :
    (k : ℕ) (ws vs s : List ℕ) →
    over (packed k (ws ++ vs)) s ≡ packed k ws ++ over (packed k vs) (drop (k * length ws) s)
pack_behind k ws vs s = rw (packed-append, over-append, length-packed)

-- word i of what was packed is read
packed_at :
    (k : ℕ) (ws s : List ℕ) (i : ℕ) →
    i < length ws →
    le_at k (over (packed k ws) s) (k * i) ≡ get_or ws i 0 % 256 ^ k
unfolding over packed
packed_at k ws s i h =
    let a = packed k (take i ws) in
    let w = get_or ws i 0 in
    let r = packed k (drop (suc i) ws) in
    let e : length a ≡ k * i = length-packed k (take i ws) ∙ rw (length-take-le i ws (omega arith)) in
    let q : packed k ws ≡ a ++ (le_bytes k w ++ r) = ap (packed k) (split_at ws i 0 h) ∙ packed-append k (take i ws) (w ∷ drop (suc i) ws) in
    rw (← e, q, append_assoc, append_assoc) (le_at-bytes k a (r ++ drop (length (a ++ (le_bytes k w ++ r))) s) w)

-- what was packed is unpacked
pub unpacked-packed :
    (k : ℕ) (ws s : List ℕ) →
    ((i : ℕ) → get_or ws i 0 < 256 ^ k) →
    unpacked k (over (packed k ws) s) (length ws) ≡ ws
unfolding unpacked
unpacked-packed k ws s b =
    sym (tab_is _ (length ws) ws refl (λ i h. sym (packed_at k ws s i h ∙ mod-eq_of_lt (b i))))

-- what was unpacked is packed: nothing changes
pub packed-unpacked :
    (k : ℕ) (s : List ℕ) (n : ℕ) →
    ((i : ℕ) → get_or s i 0 < 256) →
    k * n ≤ length s →
    packed k (unpacked k s n) ≡ take (k * n) s
unfolding unpacked tab packed
packed-unpacked k s zero b h = rw mul-zero
packed-unpacked k s (suc n) b h =
    let m = mul-suc k n in
    rw (packed-append, packed_one, packed-unpacked k s n b (omega arith), bytes-le_at k s (k * n) b (omega arith), mul-suc)
    (sym (take-add (k * n) k s))

pub repacked :
    (k : ℕ) (s : List ℕ) (n : ℕ) →
    ((i : ℕ) → get_or s i 0 < 256) →
    k * n ≤ length s →
    over (packed k (unpacked k s n)) s ≡ s
unfolding over
repacked k s n b h = rw (packed-unpacked k s n b h, length-take-le (k * n) s h) (take-append-drop (k * n) s)

-- ---- the loops over words

pub unpack_none : (k : ℕ) (s ws : List ℕ) → ws ≡ over (unpacked k s 0) ws
unfolding unpacked tab
unpack_none k s ws = sym (over_none ws)

pub pack_none : (k : ℕ) (ws s : List ℕ) → s ≡ over (packed k (take 0 ws)) s
unfolding packed
pack_none k ws s = sym (over_none s)

-- words with a number each: of a list of them, values has the numbers
module _ {W : Type 0} (value : W → ℕ) (values : List W → List ℕ) (each : (l : List W) → values l ≡ map value l) where
  -- one word more is unpacked
  pub unpack_one :
      (k : ℕ) (s : List ℕ) (ws₀ ws : List W) (i : ℕ) (w : W) →
      i < length ws₀ →
      values ws ≡ over (unpacked k s i) (values ws₀) →
      value w ≡ le_at k s (k * i) →
      values (set ws i w) ≡ over (unpacked k s (i + 1)) (values ws₀)
  unfolding unpacked
  unpack_one k s ws₀ ws i w h u e =
      let room : i < length (values ws₀) = rw (each, length-map) h in
      each (set ws i w)
      ∙ rw (map-set value ws i w, ← each ws, u, e) (over_more (λ j. le_at k s (k * j)) i (values ws₀) room)

  -- one word more is packed
  pub pack_one :
      (k : ℕ) (ws : List W) (s₀ s t : List ℕ) (i : ℕ) (w : W) →
      i < length ws →
      i < length s₀ / k →
      s ≡ over (packed k (take i (values ws))) s₀ →
      w ≡ get_or ws i w →
      t ≡ put_le k s (k * i) (value w) →
      t ≡ over (packed k (take (i + 1) (values ws))) s₀
  pack_one k ws s₀ s t i w h r u g e =
      let n : get_or (values ws) i 0 ≡ value w = rw each (get_or-map value ws i w 0 h ∙ ap value (sym g)) in
      let there : i < length (values ws) = rw (each, length-map) h in
      let room : k * (i + 1) ≤ length s₀ = rw add-one (omega (arith, mul-le-mul_left k r, mul-div-le (length s₀) k)) in
      e ∙ rw (u, ← n) (pack_more k (values ws) s₀ i there room)
