-- `text::pen::Pen::letters` meets its contract: the first bytes of s are written. Assumes nothing.
use Prim.Native.Nat.{ℕ}
use native.Mathlib.Numerals.{add-one}
use native.Mathlib.Omega.{arith}
use lib.Seq.{take-suc, take_all}
use Rattle.text.proofs.Pens.{penned_none, penned_more}
use Rattle.text.proofs.pen.Pen.letters.Goals as goal

pub loop-b-init : goal.loop-b-init
loop-b-init c = penned_none _

pub loop-b-preserved : goal.loop-b-preserved
loop-b-preserved c =
    rw (add-one, take-suc {A = ℕ} _ _ 0 c.loop-b-test.true) (penned_more c.loop-b.invariant c.byte.ensures)

pub returns : goal.returns
returns c = rw (← (take_all c.loop-b.b-index c.args.s.now (omega arith))) c.loop-b.invariant
