-- `words::little_endian::write` meets its contract: each turn writes one byte more, from the lowest up. Assumes nothing.
use Rattle.std.proofs.Common.{◌≡◌, ◌+◌, ◌-◌}
use Rattle.words.specs.Bytes.{put_le}
use Rattle.words.proofs.little_endian.write.Given as goal

abbrev pub invariant-loop-k : goal.invariant-loop-k
invariant-loop-k g l = put_le (g.W.Word.SIZE - l.k) l.s (l.p + l.k) l.rest ≡ put_le g.W.Word.SIZE l.initial.s l.p l.initial.rest
