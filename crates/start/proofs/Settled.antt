-- Two answers that meet the promise of a start are equal, and so are the tables they leave. Assumes nothing.
use mathlib.Core.Path.{◌≡◌, sym, ◌∙◌}
use mathlib.Core.List.{List}
use Prim.Native.Nat.{ℕ}
use lib.ListN.{length}
use Rattle.meaning.specs.Net.{Net, Sane}
use Rattle.meaning.proofs.Computed.{start_one}
use Rattle.meaning.proofs.Fronts.{tables_same}
use Rattle.numbers.specs.declared.Numbers.{Numbers}
use Rattle.lists.specs.Lists.{net}
use Rattle.lists.proofs.Right.{sane}
use Rattle.start.specs.Calls.{start_check, Started, StartLeaves, StartCall}
use Rattle.start.proofs.Order.{start_good}
use Rattle.words.specs.Refusals.{Check}
use Rattle.std.specs.Prelude.{Ok, Err}

-- two tables started from one are the same list
pub started_one : {g : Net} → Sane g → (t u v : List ℕ) → Started g t u → Started g t v → u ≡ v
started_one {g} ok t u v a b =
    tables_same g u v a.start.long b.start.long (λ A i j x y z. start_one ok (a.start.cell A i j x y z) (b.start.cell A i j x y z))
    (a.kept ∙ sym b.kept)

module _ (numbers : Numbers) (rules edges t : List ℕ) where
  leaves_one : (c : Check) (u v : List ℕ) → c ≡ start_check numbers rules edges (length t)
      → StartLeaves c (net numbers rules edges) t u → StartLeaves c (net numbers rules edges) t v → u ≡ v
  leaves_one (Ok _) u v e a b =
      started_one (sane numbers rules edges ((start_good numbers rules edges (length t)).0 (sym e)).lists) t u v a b
  leaves_one (Err r) u v e a b = a ∙ sym b

  pub start_settled : (c d : Check) (u v : List ℕ) → StartCall numbers rules edges t c u → StartCall numbers rules edges t d v
      → (c ≡ d) × (u ≡ v)
  start_settled c d u v x y =
      let e = x.answer ∙ sym y.answer in
      (e, leaves_one d u v y.answer (rw e at x.leaves) y.leaves)
