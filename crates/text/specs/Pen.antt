-- What a pen promises: the text that it writes where it stands, as far as the buffer goes. Assumes nothing.
use Rattle.std.specs.Prelude.{◌≡◌, List, ℕ, ◌+◌, ◌-◌, min, length}
use Rattle.std.specs.Borrow.{MutBor}
use Rattle.std.proofs.lemmas.List.Edits.{sets}
use Rattle.text.specs.declared.pen.Pen.{Pen}

-- a pen at the front of a text
pub record Fresh (text : MutBor (List ℕ)) (p : Pen) : Type 0 where
  pub same : p.text.ghost_name ≡ text.ghost_name
  pub is : p.text.now ≡ text.now
  pub at : p.at ≡ 0

-- the pen p has written w where it stood, and is now q; what is past the text's end is dropped
pub record Penned (p q : Pen) (w : List ℕ) : Type 0 where
  pub same : q.text.ghost_name ≡ p.text.ghost_name
  pub is : q.text.now ≡ sets p.text.now p.at w
  pub at : q.at ≡ p.at + min (length w) (length p.text.now - p.at)
