-- `text::pen::Pen::path` meets its contract: the first edges are written. Assumes nothing.
use Prim.Native.Nat.{ℕ}
use native.Mathlib.Numerals.{add-one}
use native.Mathlib.Omega.{arith}
use lib.Seq.{take-suc, take_all}
use Rattle.text.specs.Text.{ascii, path_text}
use Rattle.text.proofs.Pens.{penned_none, penned_more}
use Rattle.text.proofs.Paths.{path_more}
use Rattle.text.proofs.pen.Pen.path.Goals as goal

pub loop-e-init : goal.loop-e-init
unfolding path_text
loop-e-init c = penned_none _

pub loop-e-preserved : goal.loop-e-preserved
unfolding ascii
loop-e-preserved c =
    rw (add-one, take-suc {A = ℕ} _ _ 0 c.loop-e-test.true, path_more) (penned_more c.loop-e.invariant (rw c.from.ensures at c.labelled.ensures))

pub returns : goal.returns
returns c = rw (← (take_all c.loop-e.e-index c.args.edges.now (omega arith))) c.loop-e.invariant
