-- What the witness gives for a pair's line: its path, or `long`. Assumes nothing.
use mathlib.Core.Path.{◌≡◌, sym, ap, ◌∙◌}
use mathlib.Core.List.{List}
use mathlib.Core.Logic.{⊎_elim}
use Prim.Native.Nat.{ℕ, ◌≤◌, ◌<◌}
use native.Mathlib.Omega.{arith}
use lib.ListN.{length, take}
use Rattle.std.specs.Prelude.{Result, Ok, Err}
use Rattle.words.specs.Refusals.{Refusal}
use Rattle.words.proofs.Tab.{length_over, take-over}
use Rattle.words.proofs.Refusals.{good_bad}
use Rattle.meaning.proofs.Recorded.{recorded_length}
use Rattle.lists.proofs.Right.{accepted, sane}
use Rattle.numbers.specs.declared.Numbers.{Numbers}
use Rattle.witness.specs.Answers.{witness_check, Answered, Witnessed}
use Rattle.witness.proofs.Exact.{witness_good}
use Rattle.witness.proofs.Worth.{run_witness}
use Rattle.text.specs.declared.query.Query.{Query}
use Rattle.text.specs.Text.{path_text}
use Rattle.text.specs.Pairs.{Tail}
use Rattle.text.specs.Queried.{checked_numbers, length_at}
use Rattle.text.specs.Penned.{FinalQuery, PairAt, TailOf}

module _ (q : Query) (i j : ℕ) (entry exit : List ℕ) (room : length entry ≤ 1024) where
  abbrev numbers : Numbers
  numbers = checked_numbers q.checked

  abbrev rules : List ℕ
  rules = q.checked.held.lists.rules.now

  abbrev edges : List ℕ
  edges = q.checked.held.lists.edges.now

  abbrev table : List ℕ
  table = q.checked.held.table.now

  abbrev lengths : List ℕ
  lengths = q.checked.held.lengths.now

  -- what the witness of the cell answers
  abbrev Answer : Result ℕ Refusal → Type 0
  Answer r = Witnessed numbers rules edges q.head i j table lengths entry exit r

  -- a written path is the whole recorded one
  pub record WholePath (n : ℕ) : Type 0 where
    pub fits : n ≤ length exit
    pub tail : TailOf q i j (path_text (take n exit))

  pub tail_shown : {n : ℕ} {r : Result ℕ Refusal} → r ≡ Ok n → Answer r → WholePath n
  tail_shown {n} e w = go (rw e at w)
    where
      go : Answer (Ok n) → WholePath n
      go (Answered.wrote p good way count words) =
          let h = (witness_good numbers rules edges table lengths q.head i j (length entry)).0 good in
          let e = recorded_length (sane numbers rules edges (accepted numbers rules edges h.0.lists)) h.0.right way h.2 in
          let few : length p ≤ length entry = omega (arith, h.3) in
          let same : take n exit ≡ p = rw words (take-over p entry n (sym count)) in
          record {
            fits = omega (arith, count, ap length words ∙ length_over p entry few);
            tail = rw same (Tail.shown (omega (arith, h.3)) way);
          }

  -- a refused one has no room
  pub tail_long : {s : Result ℕ Refusal} {r : Refusal} → s ≡ Err r → FinalQuery q → PairAt q i j → Answer s → length entry < length_at q.checked q.head i j
  tail_long {r = r} e final_query cell w =
      ⊎_elim
      (λ good. absurd (good_bad (sym good ∙ bad (rw e at w))))
      (λ none. ⊎_elim (λ l. omega arith) (λ l. omega arith) none.1)
      (run_witness numbers rules edges table lengths q.head i j q.checked.held.lists.passed final_query.final final_query.lengths q.in_range cell.from cell.to cell.filled (length entry))
    where
      bad : Answer (Err r) → witness_check numbers rules edges q.head i j table lengths (length entry) ≡ Err r
      bad (Answered.refused b same) = b
