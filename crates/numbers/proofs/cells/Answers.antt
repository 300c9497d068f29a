-- `numbers::cells` meets its contract. Assumes nothing.
use mathlib.Core.Path.{◌∙◌}
use native.Mathlib.Nat.{add-zero}
use Rattle.meaning.specs.Table.{cell}
use Rattle.numbers.proofs.cells.Goals as goal

pub returns : goal.returns
unfolding cell
returns c = c.cell.ensures ∙ simp add-zero
