-- Each call's promise settles its answer and every lent byte: two outcomes that meet it are equal. Assumes nothing.
use mathlib.Core.Path.{◌≡◌, sym, ap, subst, ◌∙◌}
use mathlib.Core.List.{List}
use Prim.Native.Nat.{ℕ}
use lib.ListN.{length}
use Rattle.words.specs.Tab.{over}
use Rattle.packing.specs.Packed.{packed}
use Rattle.words.proofs.Refusals.{good_bad, bad_same, and_good}
use Rattle.words.specs.Refusals.{Check, Good}
use Rattle.meaning.proofs.Recorded.{recorded_one}
use Rattle.numbers.specs.declared.Numbers.{Numbers}
use Rattle.lists.specs.Lists.{net, lists_check}
use Rattle.lists.proofs.Right.{accepted, sane}
use Rattle.closure.specs.Runs.{RunIs}
use Rattle.closure.proofs.Settled.{run_settled}
use Rattle.nevelknop.specs.Calls.{cell_words, call_check, run_number, refusal_number, RunBytes, WitnessBytes, RunOn, WitnessOn}

-- the answer and the lent bytes at the exit
pub record SameRun (n m : ℕ) (table table' lengths lengths' : List ℕ) : Type 0 where
  pub answer : n ≡ m
  pub tables : table ≡ table'
  pub all_lengths : lengths ≡ lengths'

pub record SameWitness (n m : ℕ) (path path' : List ℕ) : Type 0 where
  pub answer : n ≡ m
  pub paths : path ≡ path'

module _ (records : Check) (numbers : Numbers) (rules edges : List ℕ) where
  pub call_good : {own : Check} → call_check records numbers rules edges own ≡ Good → (lists_check numbers rules edges ≡ Good) × (own ≡ Good)
  unfolding call_check
  call_good e = let a = (and_good _ _).0 ((and_good _ _).0 e).1 in (a.0, ((and_good _ _).0 a.1).1)

  pub run_one : (table lengths : List ℕ) {table' lengths' table'' lengths'' : List ℕ} {n m : ℕ}
      → RunOn records numbers rules edges table lengths table' lengths' n → RunOn records numbers rules edges table lengths table'' lengths'' m
      → SameRun n m table' table'' lengths' lengths''
  run_one table lengths (RunBytes.refused r e a t l) (RunBytes.refused s f b u k) =
      record { answer = a ∙ ap refusal_number (bad_same (sym e ∙ f)) ∙ sym b; tables = t ∙ sym u; all_lengths = l ∙ sym k }
  run_one table lengths (RunBytes.refused r e a t l) (RunBytes.ran b u k f i c v j) = absurd (good_bad (sym f ∙ e))
  run_one table lengths (RunBytes.ran b u k f i c v j) (RunBytes.refused r e a t l) = absurd (good_bad (sym f ∙ e))
  run_one table lengths (RunBytes.ran a t l e i n u k) (RunBytes.ran b v j f h m w q) =
      let own = sym (call_good e).1 in
      let same = run_settled numbers rules edges (cell_words 8 table) (cell_words 4 lengths) t l v j a b
      (subst (λ c. RunIs c (net numbers rules edges) (cell_words 8 table) (cell_words 4 lengths) t l a) own i)
      (subst (λ c. RunIs c (net numbers rules edges) (cell_words 8 table) (cell_words 4 lengths) v j b) own h) in
      record {
        answer = n ∙ ap run_number same.answer ∙ sym m;
        tables = u ∙ ap (λ t. over (packed 8 t) table) same.table ∙ sym w;
        all_lengths = k ∙ ap (λ l. over (packed 4 l) lengths) same.lengths ∙ sym q;
      }

  pub witness_one : (a i j : ℕ) (table lengths path : List ℕ) {path' path'' : List ℕ} {n m : ℕ}
      → WitnessOn records numbers rules edges a i j table lengths path path' n → WitnessOn records numbers rules edges a i j table lengths path path'' m
      → SameWitness n m path' path''
  witness_one a i j table lengths path (WitnessBytes.refused r e n p) (WitnessBytes.refused s f m q) =
      record { answer = n ∙ ap refusal_number (bad_same (sym e ∙ f)) ∙ sym m; paths = p ∙ sym q }
  witness_one a i j table lengths path (WitnessBytes.refused r e n p) (WitnessBytes.wrote q f way m w) = absurd (good_bad (sym f ∙ e))
  witness_one a i j table lengths path (WitnessBytes.wrote q f way m w) (WitnessBytes.refused r e n p) = absurd (good_bad (sym f ∙ e))
  witness_one a i j table lengths path (WitnessBytes.wrote p e way n w) (WitnessBytes.wrote q f way' m v) =
      let same = recorded_one (sane numbers rules edges (accepted numbers rules edges (call_good e).0)) way way' in
      record { answer = n ∙ ap length same ∙ sym m; paths = w ∙ ap (λ p. over (packed 2 p) path) same ∙ sym v }
