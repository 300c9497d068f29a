-- A caller reads a refusal's number and place off the answer, as include/nevelknop.h does; and an accepted answer is no refusal.
-- Assumes nothing.
use mathlib.Core.Path.{◌≡◌, sym, ap, ◌∙◌}
use mathlib.Core.List.{List}
use Prim.Native.Nat.{ℕ, ◌/◌, ◌%◌, ◌^◌}
use native.Mathlib.Omega.{arith}
use lib.ListN.{length}
use Rattle.words.proofs.Refusals.{good_bad, bad_same}
use Rattle.words.specs.Refusals.{Refusal, Check, Good, number_of}
use Rattle.std.specs.Prelude.{Ok, Err}
use Rattle.meaning.specs.Table.{cells}
use Rattle.meaning.proofs.Depth.{depth_small}
use Rattle.meaning.proofs.Recorded.{recorded_length}
use Rattle.numbers.specs.declared.Numbers.{Numbers}
use Rattle.lists.specs.Lists.{net}
use Rattle.lists.proofs.Right.{accepted, sane}
use Rattle.closure.specs.Runs.{run_check}
use Rattle.closure.proofs.Settled.{never_12}
use Rattle.witness.specs.Answers.{witness_check}
use Rattle.witness.proofs.Exact.{witness_good}
use Rattle.nevelknop.specs.Calls.{words_of, cell_words, bytes_check, call_check, refusal_number, RunBytes, WitnessBytes, RunCall, WitnessCall}
use Rattle.nevelknop.proofs.Settled.{call_good}
use Rattle.nevelknop.proofs.Places.{Low, low_records, low_call, low_run, low_witness}

-- the answer n says refusal r
pub record Says (n : ℕ) (r : Refusal) : Type 0 where
  pub number : n / 2 ^ 32 ≡ (number_of r.reason)
  pub place : n % 2 ^ 32 ≡ r.place

says : {n : ℕ} {r : Refusal} → n ≡ refusal_number r → Low r → Says n r
says e l = record { number = omega arith; place = omega arith }

module _ (numbers : Numbers) (rules edges : List ℕ) where
  abbrev R : List ℕ
  R = words_of 2 rules

  abbrev E : List ℕ
  E = words_of 2 edges

  abbrev check : Check → Check
  check = call_check (bytes_check (length rules) (length edges)) numbers R E

  pub run_says : (table lengths : List ℕ) {table' lengths' : List ℕ} {n : ℕ} {r : Refusal}
      → check (run_check numbers R E (length (cell_words 8 table)) (length (cell_words 4 lengths))) ≡ Err r
      → RunCall numbers rules edges table lengths table' lengths' n → Says n r
  run_says table lengths {r = r} e (RunBytes.refused s f a t l) =
      says (a ∙ ap refusal_number (bad_same (sym f ∙ e))) (low_call numbers R E (low_records _ _) (low_run numbers R E _ _) r e)
  run_says table lengths e (RunBytes.ran a t l f i n u k) = absurd (good_bad (sym f ∙ e))

  -- an accepted run answers a count below 2^32
  pub run_counts : (table lengths : List ℕ) {table' lengths' : List ℕ} {n : ℕ}
      → check (run_check numbers R E (length (cell_words 8 table)) (length (cell_words 4 lengths))) ≡ Good
      → RunCall numbers rules edges table lengths table' lengths' n → n / 2 ^ 32 ≡ 0
  run_counts table lengths e (RunBytes.refused s f a t l) = absurd (good_bad (sym e ∙ f))
  run_counts table lengths e (RunBytes.ran (Ok d) t l f i n u k) = omega (arith, n, i.deep, depth_small t (cells (net numbers R E)))
  run_counts table lengths e (RunBytes.ran (Err r) t l f i n u k) =
      absurd (never_12 (sane numbers R E (accepted numbers R E (call_good _ numbers R E e).0)) i.high)

  pub witness_says : (a i j : ℕ) (table lengths path : List ℕ) {path' : List ℕ} {n : ℕ} {r : Refusal}
      → check (witness_check numbers R E a i j (cell_words 8 table) (cell_words 4 lengths) (length path / 2)) ≡ Err r
      → WitnessCall numbers rules edges a i j table lengths path path' n → Says n r
  witness_says a i j table lengths path {r = r} e (WitnessBytes.refused s f n p) =
      says (n ∙ ap refusal_number (bad_same (sym f ∙ e))) (low_call numbers R E (low_records _ _) (low_witness numbers R E _ _ a i j _) r e)
  witness_says a i j table lengths path e (WitnessBytes.wrote p f way n w) = absurd (good_bad (sym f ∙ e))

  -- and so does an accepted witness
  pub witness_counts : (a i j : ℕ) (table lengths path : List ℕ) {path' : List ℕ} {n : ℕ}
      → check (witness_check numbers R E a i j (cell_words 8 table) (cell_words 4 lengths) (length path / 2)) ≡ Good
      → WitnessCall numbers rules edges a i j table lengths path path' n → n / 2 ^ 32 ≡ 0
  witness_counts a i j table lengths path e (WitnessBytes.refused s f n p) = absurd (good_bad (sym e ∙ f))
  witness_counts a i j table lengths path e (WitnessBytes.wrote p f way n w) =
      let g = call_good _ numbers R E e in
      let h = (witness_good numbers R E (cell_words 8 table) (cell_words 4 lengths) a i j (length path / 2)).0 g.1 in
      let k = recorded_length (sane numbers R E (accepted numbers R E g.0)) h.0.right way h.2 in
      omega (arith, n, h.2)
