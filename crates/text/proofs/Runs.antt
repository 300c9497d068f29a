-- Laws of the run of a small deck: it refuses nothing, and the table check accepts what it leaves. Assumes nothing.
use mathlib.Core.Path.{◌≡◌, ap}
use mathlib.Core.List.{List}
use Prim.Native.Nat.{ℕ, ◌≤◌}
use native.Mathlib.Omega.{arith}
use lib.ListN.{length, drop, length-drop}
use borrow.Author.Tests.{le-leb}
use Rattle.words.specs.declared.Reason.TheVariants.{TooShort}
use Rattle.words.specs.Refusals.{Refusal, Good}
use Rattle.words.proofs.Refusals.{must_good, and_good}
use Rattle.meaning.proofs.Right.{final_right}
use Rattle.numbers.specs.Numbers.{cells_of, room_check}
use Rattle.lists.proofs.Right.{accepted, sane}
use Rattle.deck.specs.declared.Header.{Header}
use Rattle.deck.specs.Reads.{numbers_in}
use Rattle.closure.specs.Runs.{run_check, Completed, Stopped}
use Rattle.closure.proofs.Settled.{never_12}
use Rattle.witness.specs.Answers.{table_check, check_answer}
use Rattle.witness.proofs.Exact.{check_good}
use Rattle.text.specs.declared.query.Query.{Query}
use Rattle.text.specs.Report.{net_in}
use Rattle.text.specs.Queried.{checked_numbers}
use Rattle.text.specs.Penned.{Exact, QueryOf, Small}

kept_length : (l l' : List ℕ) (n : ℕ) → drop n l' ≡ drop n l → length l ≡ n → n ≤ length l' → length l' ≡ n
kept_length l l' n k s b = omega (arith, length-drop n l', length-drop n l, ap length k)

module _ {h : Header} {rules edges t ls : List ℕ} (small : Small h rules edges) (exact : Exact h t ls) where
  -- the run has nothing to refuse
  pub run_good : run_check (numbers_in h) rules edges (length t) (length ls) ≡ Good
  unfolding run_check room_check
  run_good =
      let table : cells_of (numbers_in h) ≤ length t = omega (arith, exact.table) in
      let lengths : cells_of (numbers_in h) ≤ length ls = omega (arith, exact.lengths) in
      (and_good _ _).1 (small.lists, (and_good _ _).1 ((must_good _ TooShort 0).1 (le-leb _ _ table), (must_good _ TooShort 1).1 (le-leb _ _ lengths)))

  -- and never stops
  pub run_never : {t' ls' : List ℕ} {r : Refusal} → Stopped (net_in h rules edges) t ls t' ls' r → ⊥
  run_never x = never_12 (sane (numbers_in h) rules edges (accepted (numbers_in h) rules edges small.lists)) x.high

  module _ {t' ls' : List ℕ} {d : ℕ} (run : Completed (net_in h rules edges) t ls t' ls' d) where
    pub run_accepted : table_check (numbers_in h) rules edges t' ls' ≡ Good
    unfolding check_answer
    run_accepted =
        let right = final_right (sane (numbers_in h) rules edges (accepted (numbers_in h) rules edges small.lists)) run.final run.lengths in
        ((and_good _ _).0 ((check_good (numbers_in h) rules edges t' ls').1 (small.lists, right))).1

    -- a query of what it leaves
    pub run_query : (q : Query) → q.head ≡ h.query → checked_numbers q.checked ≡ numbers_in h
        → q.checked.held.lists.rules.now ≡ rules → q.checked.held.lists.edges.now ≡ edges
        → q.checked.held.table.now ≡ t' → q.checked.held.lengths.now ≡ ls' → QueryOf h q
    run_query q head numbers r e table lengths = record {
      numbers = numbers;
      head = head;
      final_query = record { final = rw (numbers, r, e, table) run.final; lengths = rw (numbers, r, e, table, lengths) run.lengths };
      exact = record {
        table = rw table (kept_length t t' _ run.kept exact.table run.final.long);
        lengths = rw lengths (kept_length ls ls' _ run.kept_lengths exact.lengths run.lengths.long);
      };
    }
