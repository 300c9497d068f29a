-- `closure::depth::depth_of` meets its contract. Assumes nothing.
use mathlib.Core.Path.{◌≡◌}
use Rattle.meaning.specs.Lengths.{depth}
use Rattle.closure.proofs.depth.depth_of.Given as goal

abbrev pub invariant-loop-word : goal.invariant-loop-word
invariant-loop-word l = l.deep ≡ depth l.fn.table l.word-index
