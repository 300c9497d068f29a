-- An accepted call's numbers, lists and room; and when each refusal of a call is given. Assumes nothing.
use mathlib.Core.Path.{◌≡◌, refl, sym, ◌∙◌}
use mathlib.Core.List.{List}
use mathlib.Core.Logic.Iff
use mathlib.Core.Logic.{◌≢◌, ◌↔◌}
use Prim.Native.Nat.{ℕ, ◌*◌, ◌≤◌, ◌<◌}
use native.Mathlib.Omega.{arith}
use native.Mathlib.Nat.{mul-le-mul}
use Rattle.std.specs.Prelude.{Err}
use Rattle.words.specs.Refusals.{Refusal, refused, Check, Good}
use Rattle.words.proofs.Refusals.{and_good, only_must, and_first, and_second}
use Rattle.words.specs.declared.Reason.{Reason}
use Rattle.words.specs.declared.Reason.TheVariants.{TooShort}
use Rattle.meaning.specs.Net.{Sane}
use Rattle.numbers.specs.declared.Numbers.{Numbers}
use Rattle.numbers.specs.Numbers.{room_check}
use Rattle.lists.specs.Lists.{net, lists_check}
use Rattle.lists.specs.declared.Lists.{Lists}
use Rattle.lists.proofs.Right.{accepted, sane}
use Rattle.numbers.proofs.Given.{room_given}
use Rattle.lists.proofs.Given.{lists_other}
use Rattle.rows.specs.Calls.{rows_check, RowsMade, RowsCall}
use lib.ListN.{length}

pub lists_sane : (l : Lists) → Sane (net l.numbers l.rules.now l.edges.now)
lists_sane l = sane l.numbers l.rules.now l.edges.now (accepted l.numbers l.rules.now l.edges.now l.passed)

-- the number of rows
pub rows_few : (numbers : Numbers) (rules edges : List ℕ) → lists_check numbers rules edges ≡ Good → numbers.nonterminals * numbers.nodes ≤ 2048
rows_few numbers rules edges e =
    let r = accepted numbers rules edges e in
    omega (arith, mul-le-mul r.nonterminals.high r.nodes.high)

module _ (numbers : Numbers) (rules edges : List ℕ) (have : ℕ) (e : rows_check numbers rules edges have ≡ Good) where
  both : (lists_check numbers rules edges ≡ Good) × (room_check 5 (numbers.nonterminals * numbers.nodes) have ≡ Good)
  unfolding rows_check
  both = (and_good _ _).0 e

  pub rows_sane : Sane (net numbers rules edges)
  rows_sane = sane numbers rules edges (accepted numbers rules edges both.0)

module _ (numbers : Numbers) (rules edges : List ℕ) (have p : ℕ) where
  -- the lists' refusals come first, exactly as the lists give them
  pub given_lists : (k : Reason) → k ≢ TooShort → (rows_check numbers rules edges have ≡ refused k p) ↔ (lists_check numbers rules edges ≡ refused k p)
  unfolding rows_check room_check
  given_lists k n = and_first _ _ k p (only_must _ _ TooShort 5 (λ e. n (sym e)))

  -- the rows are too few
  pub given_10 : (rows_check numbers rules edges have ≡ refused TooShort p)
      ↔ ((lists_check numbers rules edges ≡ Good) × ((have < numbers.nonterminals * numbers.nodes) × (p ≡ 5)))
  unfolding rows_check
  given_10 =
      Iff.trans
      (and_second (lists_check numbers rules edges) _ TooShort p (lists_other numbers rules edges TooShort (omega arith)))
      (Iff.and Iff.rfl (room_given 5 (numbers.nonterminals * numbers.nodes) have p))

module _ (numbers : Numbers) (rules edges rs : List ℕ) where
  -- a refused call
  pub rows_refused : {c : Check} (r : Refusal) → c ≡ Err r → rows_check numbers rules edges (length rs) ≡ Err r → RowsCall numbers rules edges rs c rs
  rows_refused r e s = record { answer = e ∙ sym s; leaves = rw e refl }

  -- an accepted one
  pub rows_done : {rs' : List ℕ} → RowsMade (net numbers rules edges) rs rs' → rows_check numbers rules edges (length rs) ≡ Good
      → RowsCall numbers rules edges rs Good rs'
  rows_done m s = record { answer = sym s; leaves = m }
