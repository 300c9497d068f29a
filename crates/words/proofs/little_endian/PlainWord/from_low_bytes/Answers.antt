-- `words::little_endian::PlainWord::from_low_bytes` meets its contract: what is left by 256 ^ SIZE fits. Assumes nothing.
use native.Mathlib.Nat.{one-le-pow, mod-lt}
use lib.Dec.{lit<}
use Rattle.words.proofs.little_endian.PlainWord.from_low_bytes.Goals as goal

pub nonzero_rem-x : goal.nonzero_rem-x
nonzero_rem-x g c = rw c.in-Some.ensures.1 (one-le-pow c.SIZE.result 256 (lit< tt))

pub from_u64-requires : goal.from_u64-requires
from_u64-requires g c =
    rw (c.in-Some.ensures.1, c.SIZE.ensures)
    (mod-lt _ (one-le-pow g.Self.Word.SIZE 256 (lit< tt)))
