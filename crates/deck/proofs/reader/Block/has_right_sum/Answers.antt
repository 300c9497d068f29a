-- `deck::reader::Block::has_right_sum` meets its contract. Assumes nothing.
use mathlib.Core.Path.{◌≡◌, ◌∙◌}
use Prim.Native.Nat.{◌+◌, ◌*◌, ◌-◌}
use native.Mathlib.Omega.{arith}
use lib.ListN.{take, drop}
use Rattle.std.specs.Prelude.{sum}
use Rattle.deck.specs.Blocks.{sum_at, right_sum}
use Rattle.deck.proofs.Sums.{sum_bytes}
use Rattle.deck.proofs.reader.Block.has_right_sum.Goals as goal

pub returns : goal.returns
unfolding right_sum
returns c = let b = c.args.self.now in
    let n : b.position * 512 + 508 - b.position * 512 ≡ 508 = omega arith in
    let s : sum (take (b.position * 512 + 508 - b.position * 512) (drop (b.position * 512) b.deck.now)) ≡ sum_at 508 b.deck.now (b.position * 512) = rw n (sum_bytes 508 b.deck.now (b.position * 512) (omega arith)) in
    rw (c.sum_of-sum.ensures ∙ s, c.read.ensures)
