-- What an accepted witness, its windows and the run's table are worth. Assumes nothing.
use mathlib.Core.Path.{◌≡◌, ◌∙◌}
use mathlib.Core.List.{List}
use mathlib.Core.Logic.{◌⊎◌, inl, inr, ⊎_elim}
use Prim.Native.Nat.{ℕ, ◌≤◌, ◌<◌}
use native.Mathlib.Omega.{arith}
use lib.ListN.{length}
use Rattle.key.specs.Keys.{EMPTY, height_of}
use Rattle.std.specs.Prelude.{Ok}
use Rattle.words.specs.Refusals.{refused, Good}
use Rattle.words.specs.Tab.{over}
use Rattle.words.specs.declared.Reason.TheVariants.{TooShort}
use Rattle.meaning.specs.Trees.{Reach}
use Rattle.meaning.specs.Table.{at}
use Rattle.meaning.specs.Final.{FinalTable}
use Rattle.meaning.specs.Lengths.{Lengths, RightTable}
use Rattle.meaning.proofs.Right.{final_right}
use Rattle.meaning.proofs.Recorded.{recorded_one, recorded_reach, recorded_length, recorded_tall}
use Rattle.numbers.specs.declared.Numbers.{Numbers}
use Rattle.lists.specs.Lists.{net, lists_check}
use Rattle.lists.proofs.Right.{accepted, sane}
use Rattle.witness.specs.Answers.{check_answer, witness_check, part, Answered, Windowed, Witnessed}
use Rattle.witness.specs.Walks.{WordsWritten}
use Rattle.witness.proofs.Writes.{Recording, window_sane}
use Rattle.witness.proofs.Exact.{Ask, NoRoom, room_or_not, check_good, witness_good, witness_ten}

module _ (numbers : Numbers) (rules edges t ls : List ℕ) (a i j : ℕ) where
  abbrev n : ℕ
  n = numbers.nodes

  -- an accepted witness is a real path from i to j whose word has a derivation tree from A of the recorded height;
  -- its length is the recorded one, and at least its height
  pub record Worth (entry exit : List ℕ) (r : ℕ) : Type 0 where
    pub path : List ℕ
    pub words : exit ≡ over path entry
    pub reach : Reach (net numbers rules edges) a i j (height_of (at n t a i j)) path
    pub count : r ≡ length path
    pub long : r ≡ at n ls a i j
    pub tall : height_of (at n t a i j) ≤ r

  pub witness_worth : {entry exit : List ℕ} {r : ℕ} → Witnessed numbers rules edges a i j t ls entry exit (Ok r) → Worth entry exit r
  witness_worth {entry} (Answered.wrote p good way count words) =
      let h = (witness_good numbers rules edges t ls a i j (length entry)).0 good in
      let ok = sane numbers rules edges (accepted numbers rules edges h.0.lists) in
      record {
        path = p;
        words = words;
        reach = recorded_reach ok h.0.right way;
        count = count;
        long = count ∙ recorded_length ok h.0.right way h.2;
        tall = omega (arith, count, recorded_tall ok h.0.right way);
      }

  -- all windows of a cell are parts of its one recorded path
  pub window_part : (x : Recording numbers rules edges t ls a i j) (from : ℕ) {entry exit : List ℕ} {r : ℕ} → Windowed numbers rules edges a i j t ls from entry exit (Ok r)
      → WordsWritten (part from (length entry) x.path) entry exit r
  window_part x from (Answered.wrote p good way count words) =
      rw (recorded_one (window_sane numbers rules edges t ls a i j good) x.recorded way) (record { count = count; words = words })

  -- the table that a run leaves, with its lengths
  module _ (lists : lists_check numbers rules edges ≡ Good) (final : FinalTable (net numbers rules edges) t) (lengths : Lengths (net numbers rules edges) t ls) where
    right : RightTable (net numbers rules edges) t ls
    right = final_right (sane numbers rules edges (accepted numbers rules edges lists)) final lengths

    -- is accepted
    pub run_accepted : check_answer numbers rules edges t ls ≡ Good
    run_accepted = (check_good numbers rules edges t ls).1 (lists, right)

    -- and on it the witness of a filled cell is refused only for room
    module _ (head : a < numbers.nonterminals) (from : i < n) (to : j < n) (filled : at n t a i j < EMPTY) where
      ask : Ask numbers rules edges t ls a i j
      ask = record { lists = lists; head = head; from = from; to = to; right = right }

      pub run_witness : (words : ℕ) → (witness_check numbers rules edges a i j t ls words ≡ Good)
          ⊎ ((witness_check numbers rules edges a i j t ls words ≡ refused TooShort 2) × NoRoom words (at n ls a i j))
      run_witness words =
          ⊎_elim
          (λ h. inr ((witness_ten numbers rules edges t ls a i j words).1 (ask, filled, h), h))
          (λ h. inl ((witness_good numbers rules edges t ls a i j words).1 (ask, filled, h.0, h.1)))
          (room_or_not words (at n ls a i j))
