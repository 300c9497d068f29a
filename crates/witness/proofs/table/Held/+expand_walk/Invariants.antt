-- `table::Held::walk` and `table::Held::expand` meet their contracts: the height falls from a cell to its sides. Assumes nothing.
use Prim.Native.Nat.{◌+◌, ◌*◌}
use Rattle.key.specs.Keys.{height_of}
use Rattle.meaning.specs.Trees.{joined}
use Rattle.witness.specs.Walks.{at_spot}
use Rattle.witness.proofs.table.Held.+expand_walk.Given as goal

abbrev pub decreases-expand : goal.decreases-expand
decreases-expand l = joined (height_of (at_spot l.self.now.table.now l.left)) (height_of (at_spot l.self.now.table.now l.right)) * 2

abbrev pub decreases-walk : goal.decreases-walk
decreases-walk l = height_of (at_spot l.self.now.table.now l.s) * 2 + 1
