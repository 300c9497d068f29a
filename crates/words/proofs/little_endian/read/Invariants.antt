-- `words::little_endian::read` meets its contract: each turn reads one byte more, from the highest down. Assumes nothing.
use Rattle.std.proofs.Common.{◌≡◌, ◌+◌, ◌-◌}
use Rattle.words.specs.Bytes.{le_at}
use Rattle.words.proofs.little_endian.read.Given as goal

abbrev pub invariant-loop-k : goal.invariant-loop-k
invariant-loop-k g l = l.number ≡ le_at (g.W.Word.SIZE - l.k) l.s (l.p + l.k)
