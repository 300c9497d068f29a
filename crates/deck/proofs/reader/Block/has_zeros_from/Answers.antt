-- `deck::reader::Block::has_zeros_from` meets its contract. Assumes nothing.
use mathlib.Core.Path.{◌≡◌, ◌∙◌}
use Prim.Native.Nat.{◌+◌, ◌*◌, ◌-◌}
use native.Mathlib.Omega.{arith}
use lib.ListN.{take, drop}
use Rattle.std.specs.Prelude.{sum}
use Rattle.deck.specs.Blocks.{sum_at}
use Rattle.deck.proofs.Sums.{sum_bytes}
use Rattle.deck.proofs.reader.Block.has_zeros_from.Goals as goal

pub returns : goal.returns
returns c = let b = c.args.self.now in
    let p = b.position * 512 + 4 + 2 * c.args.w in
    let n : b.position * 512 + 508 - (b.position * 512 + 4 + 2 * c.args.w) ≡ 504 - 2 * c.args.w = omega arith in
    let s : sum (take (504 - 2 * c.args.w) (drop p b.deck.now)) ≡ sum_at (504 - 2 * c.args.w) b.deck.now p = sum_bytes (504 - 2 * c.args.w) b.deck.now p (omega arith) in
    rw ((rw n at c.sum_of.ensures) ∙ s)
