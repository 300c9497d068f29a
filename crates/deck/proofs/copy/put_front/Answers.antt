-- `deck::copy::put_front` meets its contract. Assumes nothing.
use native.Mathlib.Omega.{arith}
use Rattle.std.proofs.lemmas.List.{length-take-le}
use Rattle.deck.proofs.Sums.{front_is, set_more}
use Rattle.deck.proofs.copy.put_front.Goals as goal

pub loop-k-preserved : goal.loop-k-preserved
loop-k-preserved g c f is = let long = length-take-le c.args.n c.args.list.now c.requires.room in
    set_more f c.loop-k.place-items c.loop-k.k c.word.result (omega arith) (c.loop-k.invariant f is) (is _ _ (omega (arith, long)) c.word.ensures)

pub returns : goal.returns
returns g c f is = let long = length-take-le c.args.n c.args.list.now c.requires.room in
    front_is f c.args.n c.loop-k.place-items c.args.list.now (omega (arith, long)) (λ k h. c.loop-k.invariant f is k (omega (arith, long)))
