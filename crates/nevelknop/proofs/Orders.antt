-- The order of the checks: what the code finds first is what the call is refused for. Assumes nothing.
use mathlib.Core.Path.{◌≡◌, refl, ap, ◌∙◌}
use mathlib.Core.List.{List}
use mathlib.Core.Logic.{⊎_elim}
use Prim.Native.Nat.{ℕ, ◌/◌, ◌%◌, ◌≤◌}
use native.Mathlib.Omega.{arith}
use mathlib.Core.Bool.{true}
use lib.ListN.{length}
use lib.Dec.{eqb}
use borrow.Author.Tests.{eqb-true, eq-eqb}
use Rattle.words.specs.Refusals.{Refusal, ◌and_then◌, Check, Good}
use Rattle.packing.specs.Packed.{unpacked}
use Rattle.words.proofs.Refusals.{must_good, and_good, and_bad, and_next, and_stop}
use Rattle.words.proofs.Tab.{length-tab}
use Rattle.std.specs.Prelude.{Ok, Err}
use Rattle.words.specs.declared.Reason.TheVariants.{WrongCount}
use Rattle.numbers.specs.declared.Numbers.{Numbers}
use Rattle.numbers.specs.Numbers.{limits_check}
use Rattle.lists.specs.Lists.{whole_check, lists_check}
use Rattle.numbers.proofs.Right.{few_records}
use Rattle.nevelknop.specs.Calls.{words_of, bytes_check, call_check}
use Rattle.nevelknop.specs.Inner.{counts_check, ready_check, given_check}

pub length-unpacked : (k : ℕ) (s : List ℕ) (n : ℕ) → length (unpacked k s n) ≡ n
unfolding unpacked
length-unpacked k s n = length-tab _ n

-- ---- 5 and 4, of lists of so many bytes

pub record Whole (rules edges : ℕ) : Type 0 where
  pub rules_whole : rules % 6 ≡ 0
  pub edges_whole : edges % 6 ≡ 0

whole : (rules edges : ℕ) → bytes_check rules edges ≡ Good → Whole rules edges
unfolding bytes_check
whole rules edges e =
    let r = (and_good _ _).0 e in
    record { rules_whole = eqb-true _ _ ((must_good _ _ _).0 r.0); edges_whole = eqb-true _ _ ((must_good _ _ _).0 r.1) }

-- few enough for the local arrays
pub record Counted (rules edges : ℕ) : Type 0 where
  pub few_rules : rules / 2 ≤ 768
  pub few_edges : edges / 2 ≤ 12288

module _ (numbers : Numbers) (rules edges : ℕ) where
  pub counted : counts_check numbers rules edges ≡ Good → Counted rules edges
  counted e =
      let a = (and_good _ _).0 e in
      let w = whole rules edges a.0 in
      let f = few_records numbers (rules / 2) (edges / 2) a.1 in
      record { few_rules = omega arith; few_edges = omega arith }

-- ---- the checks in a row

-- a check that comes last
last_own : (a b c own : Check) → a and_then b and_then c and_then own ≡ (a and_then b and_then c and_then Good) and_then own
unfolding ◌and_then◌
last_own (Ok _) (Ok _) (Ok _) own = refl
last_own (Ok _) (Ok _) (Err r) own = refl
last_own (Ok _) (Err r) c own = refl
last_own (Err r) b c own = refl

last_good : (x : Check) → x and_then Good ≡ x
unfolding ◌and_then◌
last_good (Ok tt) = refl
last_good (Err r) = refl

module _ (numbers : Numbers) (rules edges : List ℕ) where
  abbrev R : List ℕ
  R = words_of 2 rules

  abbrev E : List ℕ
  E = words_of 2 edges

  -- whole records of bytes are whole records of words: 5 passes there, and 4 is the first
  lists_bad : {r : Refusal} → Whole (length rules) (length edges)
      → limits_check numbers (length rules / 2) (length edges / 2) ≡ Err r → lists_check numbers R E ≡ Err r
  unfolding lists_check whole_check
  lists_bad w b =
      let hr : eqb (length rules / 2 % 3) 0 ≡ true = eq-eqb (length rules / 2 % 3) 0 (omega arith) in
      let he : eqb (length edges / 2 % 3) 0 ≡ true = eq-eqb (length edges / 2 % 3) 0 (omega arith) in
      rw (length-unpacked 2 rules (length rules / 2), length-unpacked 2 edges (length edges / 2))
      (and_next ((and_good _ _).1 ((must_good _ WrongCount 0).1 hr, (must_good _ WrongCount 1).1 he)) ∙ and_stop _ b)

  pub counts_bad : {r : Refusal} → counts_check numbers (length rules) (length edges) ≡ Err r → given_check numbers rules edges ≡ Err r
  unfolding call_check
  counts_bad {r} e = ⊎_elim (λ b. and_stop _ b) (λ z. and_next z.0 ∙ and_stop _ (lists_bad (whole _ _ z.0) z.1)) ((and_bad _ _ r).0 e)

  pub counts_good : counts_check numbers (length rules) (length edges) ≡ Good → given_check numbers rules edges ≡ ready_check numbers R E
  unfolding call_check
  counts_good e = and_next ((and_good _ _).0 e).0 ∙ ap (λ c. lists_check numbers R E and_then c) (last_good _)

  module _ (own : Check) where
    abbrev call : Check
    call = call_check (bytes_check (length rules) (length edges)) numbers R E own

    pub given_good : given_check numbers rules edges ≡ Good → call ≡ own
    unfolding call_check
    given_good e = last_own _ _ _ own ∙ and_next e

    pub given_bad : {r : Refusal} → given_check numbers rules edges ≡ Err r → call ≡ Err r
    unfolding call_check
    given_bad e = last_own _ _ _ own ∙ and_stop own e
