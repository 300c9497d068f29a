-- `deck::read` meets its contract. Assumes nothing.
use Rattle.deck.proofs.Handed.{right_deck}
use Rattle.deck.proofs.read.Goals as goal

pub put_edges-requires-clause-right : goal.put_edges-requires-clause-right
put_edges-requires-clause-right c = let e = c.in_ok-labels.ensures.ok in rw e.0 (right_deck _ e.1).edges
