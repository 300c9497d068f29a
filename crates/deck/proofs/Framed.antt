-- The blocks of a deck whose frames are right: their types, and so WrongCount alone is left to their records. Assumes nothing.
use mathlib.Core.List.{List}
use mathlib.Core.Bool.{Bool, true, cond, false≢true}
use mathlib.Core.Path.{◌≡◌, refl, sym, ◌∙◌}
use mathlib.Core.Logic.{◌≢◌}
use Prim.Native.Nat.{ℕ, ◌-◌, ◌≤◌}
use native.Mathlib.Omega.{arith}
use lib.Dec.{eqb, leb}
use borrow.Author.Tests.{eqb-true, eqb-false, leb-true, eq-eqb, ne_eqb}
use borrow.Table.Steps.{cases}
use Rattle.words.specs.Refusals.{must, scan, Good}
use Rattle.words.proofs.Refusals.{both, must_good, and_good, scan_good, Only, only_must, only_scan}
use Rattle.numbers.specs.Numbers.{between}
use Rattle.numbers.proofs.Right.{Between, between_true}
use Rattle.std.specs.Prelude.{Result, Ok, Err}
use Rattle.std.specs.Result.{IsOk}
use Rattle.words.specs.declared.Reason.TheVariants.{WrongSum, WrongOrder, WrongCount}
use Rattle.deck.specs.declared.reader.BlockType.{BlockType}
use Rattle.deck.specs.Blocks.{TypeNumbered, blocks, type_of, stated_number, right_sum, right_type, right_order, right_header, right_records}
use Rattle.deck.specs.Reads.{frame_check, fill_check}

-- block 0 alone is a header, and types never fall
pub record Framed (d : List ℕ) (b : ℕ) : Type 0 where
  pub header : b ≡ 0 → type_of d b ≡ 1
  pub type : b ≢ 0 → Between 2 4 (type_of d b)
  pub rise : b ≢ 0 → type_of d (b - 1) ≤ type_of d b

pub framed : (d : List ℕ) (b : ℕ) → frame_check d b ≡ Good → Framed d b
unfolding right_order
framed d b e =
    let o = (must_good (right_order d b) WrongOrder b).0 ((and_good (must (right_sum d b) WrongSum b) _).0 e).1 in
    let t = ((both (eqb (stated_number d b) b) (right_type d b)).0 o).1 in
    let later : b ≢ 0 → (between 2 4 (type_of d b) ≡ true) × (leb (type_of d (b - 1)) (type_of d b) ≡ true) = λ n. (both _ _).0 (rw (ne_eqb b 0 n) at t) in
    record {
      header = λ z. eqb-true _ _ (rw (eq-eqb b 0 z) at t);
      type = λ n. (between_true 2 4 _).0 (later n).0;
      rise = λ n. leb-true _ _ (later n).1;
    }

-- the test of a block's records: the header's, or that of the other types
abbrev pub right_fill : List ℕ → ℕ → Bool
right_fill d b = cond (eqb (type_of d b) 1) (right_header d b) (right_records d b)

-- a block of a known type is refused as WrongCount or not at all
pub fill_is : (d : List ℕ) (b : ℕ) → Framed d b → fill_check d b ≡ must (right_fill d b) WrongCount b
unfolding fill_check
fill_is d b f =
    cases (eqb (type_of d b) 1)
    (λ t. rw t)
    (λ t. rw (t, (between_true 2 4 (type_of d b)).1 (f.type (λ z. eqb-false _ _ t (f.header z)))))

-- unknown types have been refused before: counts and unused room give WrongCount alone
pub fills_5 : (d : List ℕ) → scan (frame_check d) (blocks d) ≡ Good → Only (λ r. r.reason ≡ WrongCount) (scan (fill_check d) (blocks d))
fills_5 d e =
    only_scan _ (fill_check d) _ (λ b h. rw (fill_is d b (framed d b ((scan_good (frame_check d) _).0 e b h))) (only_must _ (right_fill d b) WrongCount b refl))

-- past the frames, every block's number names a type
type_in : (d : List ℕ) (b : ℕ) → Framed d b → Between 1 4 (type_of d b)
type_in d b f = cases (eqb b 0)
    (λ z. let t = f.header (eqb-true b 0 z) in record { low = omega arith; high = omega arith })
    (λ z. let t = f.type (eqb-false b 0 z) in record { low = omega (arith, t.low); high = t.high })

pub typed : (d : List ℕ) (b n : ℕ) (r : Result BlockType ℕ) → frame_check d b ≡ Good → n ≡ type_of d b → TypeNumbered n r → IsOk r
typed d b n (Ok t) f e h = refl
typed d b n (Err x) f e h = absurd (false≢true (sym h ∙ rw e ((between_true 1 4 (type_of d b)).1 (type_in d b (framed d b f)))))
