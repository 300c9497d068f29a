-- What a call's checks, its run and its witness make of its answer. Assumes nothing.
use mathlib.Core.Path.{◌≡◌, refl, sym, ◌∙◌}
use mathlib.Core.List.{List}
use Prim.Native.Nat.{ℕ, ◌*◌, ◌/◌, ◌≤◌}
use native.Mathlib.Omega.{arith}
use lib.ListN.{length}
use Rattle.words.specs.Refusals.{Refusal, Good}
use Rattle.words.proofs.Refusals.{and_next, and_stop}
use Rattle.std.specs.Prelude.{Result, Ok, Err}
use Rattle.words.specs.Tab.{over}
use Rattle.packing.specs.Packed.{packed}
use Rattle.meaning.specs.Table.{at}
use Rattle.meaning.specs.Lengths.{Recorded}
use Rattle.numbers.specs.declared.Numbers.{Numbers}
use Rattle.numbers.specs.Numbers.{room_check}
use Rattle.numbers.proofs.Right.{room_good}
use Rattle.lists.specs.Lists.{net}
use Rattle.witness.specs.Answers.{window_check, witness_check}
use Rattle.witness.proofs.Writes.{window_path}
use Rattle.nevelknop.specs.Calls.{words_of, cell_words, RunBytes, WitnessBytes, RunCall, WitnessCall}
use Rattle.nevelknop.specs.Inner.{given_check, RunBack, Told, PathTold}
use Rattle.nevelknop.proofs.Orders.{given_good, given_bad}
use Rattle.nevelknop.proofs.Places.{low_given, low_witness, run_placed}
use Rattle.nevelknop.proofs.Lent.{Bytes, run_bytes}

module _ (numbers : Numbers) (rules edges : List ℕ) where
  abbrev R : List ℕ
  R = words_of 2 rules

  abbrev E : List ℕ
  E = words_of 2 edges

  -- a call whose lists are refused
  pub run_refused : {r : Refusal} (table lengths : List ℕ) → given_check numbers rules edges ≡ Err r
      → Told (RunCall numbers rules edges table lengths table lengths) (Err r)
  run_refused {r} table lengths e = record { fits = low_given numbers rules edges r e; kept = RunBytes.refused r (given_bad numbers rules edges _ e) refl refl refl }

  pub witness_refused : {r : Refusal} (a i j : ℕ) (table lengths path : List ℕ) → given_check numbers rules edges ≡ Err r
      → Told (WitnessCall numbers rules edges a i j table lengths path path) (Err r)
  witness_refused {r} a i j table lengths path e = record { fits = low_given numbers rules edges r e; kept = WitnessBytes.refused r (given_bad numbers rules edges _ e) refl refl }

  module _ (good : given_check numbers rules edges ≡ Good) where
    pub run_told : {table lengths table' lengths' : List ℕ} {a : Result ℕ Refusal} → Bytes table → Bytes lengths
        → RunBack numbers R E table lengths table' lengths' a → Told (RunCall numbers rules edges table lengths table' lengths') a
    run_told {table} {lengths} {a = a} bt bl b = record {
      fits = run_placed numbers R E _ (cell_words 8 table) (cell_words 4 lengths) b.t' b.ls' a refl b.run;
      kept = rw (given_good numbers rules edges _ good) (run_bytes _ b.t' b.ls' a bt bl b.run b.packed_table b.packed_lengths);
    }

    pub witness_told : (a i j : ℕ) (table lengths path : List ℕ) {path' : List ℕ} {r : Result ℕ Refusal}
        → PathTold numbers R E (cell_words 8 table) (cell_words 4 lengths) a i j path path' r
        → Told (WitnessCall numbers rules edges a i j table lengths path path') r
    witness_told a i j table lengths path h = record { fits = h.fits; kept = rw (given_good numbers rules edges _ good) h.kept }

-- a witness of a table in words
module _ (numbers : Numbers) (rules edges t ls : List ℕ) (a i j : ℕ) (path : List ℕ) where
  refused : {r : Refusal} → witness_check numbers rules edges a i j t ls (length path / 2) ≡ Err r → PathTold numbers rules edges t ls a i j path path (Err r)
  refused {r} e = record { fits = low_witness numbers rules edges t ls a i j _ r e; kept = WitnessBytes.refused r e refl refl }

  pub path_refused : {r : Refusal} → window_check numbers rules edges a i j t ls ≡ Err r → PathTold numbers rules edges t ls a i j path path (Err r)
  unfolding witness_check
  path_refused e = refused (and_stop _ e)

  module _ (good : window_check numbers rules edges a i j t ls ≡ Good) {n : ℕ} (is : n ≡ at numbers.nodes ls a i j) where
    pub room_refused : {r : Refusal} → room_check 2 n (length path / 2) ≡ Err r → PathTold numbers rules edges t ls a i j path path (Err r)
    unfolding witness_check
    room_refused e = refused (and_next good ∙ rw is at e)

    pub path_told : {path' : List ℕ} → room_check 2 n (length path / 2) ≡ Good
        → ((p : List ℕ) → Recorded (net numbers rules edges) t a i j p → path' ≡ over (packed 2 p) path)
        → PathTold numbers rules edges t ls a i j path path' (Ok n)
    unfolding witness_check
    path_told roomy w =
        let x = window_path numbers rules edges t ls a i j good in
        record { fits = tt; kept = WitnessBytes.wrote x.path (and_next good ∙ rw is at roomy) x.recorded (is ∙ sym x.long) (w x.path x.recorded) }

-- room in words is room in bytes
pub room_bytes : (n have : ℕ) → room_check 2 n (have / 2) ≡ Good → 2 * n ≤ have
room_bytes n have e = omega (arith, (room_good _ _ _).0 e)
