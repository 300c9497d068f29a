-- Any two answers and rows that meet the promise are equal; and the two engines agree, from both promises alone. Assumes nothing.
use mathlib.Core.Path.{◌≡◌, sym, ◌∙◌}
use mathlib.Core.List.{List}
use mathlib.Core.Logic.{◌↔◌}
use Prim.Native.Nat.{ℕ, ◌<◌}
use lib.ListN.{length}
use Rattle.key.specs.Keys.{EMPTY}
use Rattle.meaning.specs.Net.{Net}
use Rattle.meaning.specs.Table.{at, Each}
use Rattle.meaning.specs.Final.{FinalTable}
use Rattle.meaning.specs.Rows.{bit, row_at}
use Rattle.meaning.proofs.Rows.{rows_list, rows_filled}
use Rattle.numbers.specs.declared.Numbers.{Numbers}
use Rattle.lists.specs.Lists.{net}
use Rattle.rows.specs.Calls.{RowsLeave, RowsCall}
use Rattle.rows.proofs.Accepts.{rows_sane}
use Rattle.words.specs.Refusals.{Check, Good}
use Rattle.std.specs.Prelude.{Ok, Err}

leaves_same : (c : Check) (g : Net) (rs t u : List ℕ) → RowsLeave c g rs t → RowsLeave c g rs u → t ≡ u
leaves_same (Ok _) g rs t u x y = rows_list x.rows y.rows (x.kept ∙ sym y.kept)
leaves_same (Err r) g rs t u x y = x ∙ sym y

module _ {numbers : Numbers} {rules edges rs t u : List ℕ} {c d : Check}
    (x : RowsCall numbers rules edges rs c t) (y : RowsCall numbers rules edges rs d u) where
  same_answer : c ≡ d
  same_answer = x.answer ∙ sym y.answer

  -- one answer and one list of rows meet the promise
  pub rows_settled : (c ≡ d) × (t ≡ u)
  rows_settled = (same_answer, leaves_same d _ rs t u (rw same_answer at x.leaves) y.leaves)

-- The two engines agree, from both promises, neither engine knowing the other: where rows are accepted and t is the final table that the
-- run promises for the same lists, bit j of row (A, i) is set exactly if the cell (A, i, j) is filled in t.
pub engines_agree : {numbers : Numbers} {rules edges rs rs' t : List ℕ} → RowsCall numbers rules edges rs Good rs' → FinalTable (net numbers rules edges) t
    → Each (net numbers rules edges) (λ A i j. (bit (row_at numbers.nodes rs' A i) j ≡ 1) ↔ (at numbers.nodes t A i j < EMPTY))
engines_agree {numbers} {rules} {edges} {rs} x final = rows_filled (rows_sane numbers rules edges (length rs) (sym x.answer)) final x.leaves.rows
