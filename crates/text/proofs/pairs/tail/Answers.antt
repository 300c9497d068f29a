-- `text::pairs::tail` meets its contract. Assumes nothing.
use mathlib.Core.Path.{refl, sym}
use lib.Seq.{length-take-le}
use borrow.Author.Tests.{leb-true}
use Rattle.std.proofs.Math.Nat.{lt_of_le_of_lt}
use Rattle.text.specs.Text.{ascii}
use Rattle.text.specs.Pairs.{Tail}
use Rattle.text.proofs.Tails.{tail_shown, tail_long}
use Rattle.text.proofs.pairs.tail.Goals as goal

pub slice_bounds-room-end : goal.slice_bounds-room-end
slice_bounds-room-end c = (tail_shown c.args.query c.args.i c.args.j _ _ (leb-true _ 1024 refl) c.in-Ok.is c.write_path.ensures).fits

pub slice_bounds-path-end : goal.slice_bounds-path-end
slice_bounds-path-end c =
    sym (length-take-le _ _ (tail_shown c.args.query c.args.i c.args.j _ _ (leb-true _ 1024 refl) c.in-Ok.is c.write_path.ensures).fits)

pub returns-in-Ok : goal.returns-in-Ok
returns-in-Ok c =
    let s = tail_shown c.args.query c.args.i c.args.j _ _ (leb-true _ 1024 refl) c.in-Ok.is c.write_path.ensures in
    record { tail = _; of = s.tail; penned = c.path.ensures }

pub returns-in-Err : goal.returns-in-Err
unfolding ascii
returns-in-Err c =
    let p = c.requires in
    let s = tail_long c.args.query c.args.i c.args.j _ _ (leb-true _ 1024 refl) c.in-Err.is p.final_query p.pair_at c.write_path.ensures in
    record { tail = _; of = Tail.long (lt_of_le_of_lt (leb-true 1024 _ refl) s); penned = c.letters.ensures }
