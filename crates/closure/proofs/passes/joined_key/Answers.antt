-- `closure::passes::joined_key` meets its contract. Assumes nothing.
use mathlib.Core.Path.{◌≡◌, ap}
use native.Mathlib.Omega.{arith}
use Rattle.key.specs.Keys.{HIGHEST, height_of}
use Rattle.key.specs.declared.Parts.{Parts}
use Rattle.meaning.proofs.Joined.{joined_next}
use Rattle.closure.proofs.passes.joined_key.Goals as goal

pub overflow_cast-height : goal.overflow_cast-height
overflow_cast-height c =
    let l : c.split.result.height ≡ height_of c.args.left.word = ap (λ (p : Parts). p.height) c.split.ensures in
    let r : c.split-2.result.height ≡ height_of c.args.right.word = ap (λ (p : Parts). p.height) c.split-2.ensures in
    omega (arith, joined_next c.split.result.height c.split-2.result.height HIGHEST (omega arith) (omega arith))
