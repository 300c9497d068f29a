-- Words of a list of records, and products of 16-bit numbers. Assumes nothing.
use mathlib.Core.Path.{◌≡◌}
use mathlib.Core.List.{List}
use Prim.Native.Nat.{ℕ, ◌+◌, ◌*◌, ◌≤◌, ◌<◌}
use native.Mathlib.Nat.{mul-le-mul}
use native.Mathlib.Omega.{arith}
use lib.ListN.{length, get_or-eq_default}
use Rattle.meaning.specs.Net.{word}

pub word_past : (l : List ℕ) (r k : ℕ) → length l ≤ 3 * r + k → word l r k ≡ 0
unfolding word
word_past l r k h = get_or-eq_default l 0 h

-- a row's number and a cell's number, of 16-bit numbers, are far below 2^64
pub row_small : (n a i : ℕ) → n < 65536 → a < 65536 → i < 65536 → a * n + i < 4294901761
row_small n a i hn ha hi =
    let x : a ≤ 65535 = omega arith in
    let y : n ≤ 65535 = omega arith in
    let f : a * n ≤ 65535 * 65535 = mul-le-mul x y in
    omega arith

pub cell_small : (n x j : ℕ) → n < 65536 → x < 4294901761 → j < 65536 → x * n + j < 281474976710656
cell_small n x j hn hx hj =
    let y : x ≤ 4294901760 = omega arith in
    let z : n ≤ 65535 = omega arith in
    let f : x * n ≤ 4294901760 * 65535 = mul-le-mul y z in
    omega arith
