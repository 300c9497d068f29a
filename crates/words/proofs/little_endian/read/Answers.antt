-- `words::little_endian::read` meets its contract: the bytes read so far make a number that fits. Assumes nothing.
use Rattle.std.proofs.Common.{◌≡◌, arith}
use native.Mathlib.Nat.{add-zero, sub-zero}
use Rattle.words.proofs.Bytes.{le_at_lt, le_at_room}
use Rattle.words.proofs.little_endian.read.Goals as goal

pub overflow_mul-number : goal.overflow_mul-number
overflow_mul-number g c =
    let room = le_at_room g.W.Word.SIZE c.loop-k.k c.args.s.now c.args.p (λ i. omega (arith, c.type_inv.s i)) g.met.W.Word.small (omega arith) in
    omega arith

pub overflow_add-number : goal.overflow_add-number
overflow_add-number g c =
    let room = le_at_room g.W.Word.SIZE c.loop-k.k c.args.s.now c.args.p (λ i. omega (arith, c.type_inv.s i)) g.met.W.Word.small (omega arith) in
    omega arith

pub from_u64-requires : goal.from_u64-requires
from_u64-requires g c =
    let none : c.loop-k.k ≡ 0 = omega arith in
    rw (c.loop-k.invariant, none, add-zero, sub-zero)
    (le_at_lt g.W.Word.SIZE c.args.s.now c.args.p (λ i. omega (arith, c.type_inv.s i)))
