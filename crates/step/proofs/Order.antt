-- What the checks of a step tell, in their order; and the step from 11 on. Assumes nothing.
use mathlib.Core.Path.{◌≡◌, refl, sym, ◌∙◌}
use mathlib.Core.List.{List}
use mathlib.Core.Logic.{◌≢◌, ◌↔◌}
use mathlib.Core.Bool.{Bool, true, false, not, ◌&&◌}
use Prim.Native.Nat.{ℕ, ◌/◌, ◌≤◌, ◌<◌, min}
use native.Mathlib.Omega.{arith}
use lib.ListN.{length, get_or}
use lib.Dec.{eqb, ltb}
use borrow.Author.Tests.{ltb-true, ltb-false, eqb-false, not-true, lt-ltb, ne_eqb}
use borrow.Table.Steps.{cases}
use Rattle.words.specs.Refusals.{Refusal, must, Good}
use Rattle.words.proofs.Refusals.{must_good, and_good, and_next, and_stop}
use Rattle.std.specs.Prelude.{Result, Err}
use Rattle.words.specs.declared.Reason.TheVariants.{WrongArgument}
use Rattle.key.specs.Keys.{EMPTY}
use Rattle.meaning.specs.Net.{word}
use Rattle.meaning.specs.Steps.{Step, target_of, left_of, right_of, offer, step, wins, too_high}
use Rattle.meaning.specs.Passes.{ask_of}
use Rattle.meaning.proofs.Steps.{step_keeps}
use Rattle.numbers.specs.declared.Numbers.{Numbers}
use Rattle.numbers.proofs.Right.{room_good}
use Rattle.lists.proofs.Right.{accepted, accepting}
use Rattle.start.specs.Entering.{entered_in}
use Rattle.start.proofs.Order.{StartReady}
use Rattle.step.specs.Entering.{offered, step_answer, taken}
use Rattle.step.specs.Calls.{is_pair_rule, argument_check, usable_check, height_check, ask_check, step_cells_check, cells_step, step_check, step_of}
use Rattle.step.proofs.Entered.{taken_no}

-- ---- accepted calls

pub pair_true : (rules : List ℕ) (r : ℕ) → (is_pair_rule rules r ≡ true) ↔ ((r < length rules / 3) × (word rules r 2 ≢ 65535))
unfolding is_pair_rule
pair_true rules r = (λ e. go (ltb r (length rules / 3)) refl e, λ h. rw (lt-ltb _ _ h.0, ne_eqb _ _ h.1))
  where
    go : (b : Bool) → ltb r (length rules / 3) ≡ b → b && not (eqb (word rules r 2) 65535) ≡ true
        → (r < length rules / 3) × (word rules r 2 ≢ 65535)
    go true t e = (ltb-true _ _ t, eqb-false _ _ (not-true _ e))
    go false f e = let z : ◌≡◌ {A = ℕ} 0 1 = cc in absurd (omega arith)

-- a step's arguments in range
pub record Arguments (n : ℕ) (rules : List ℕ) (r i k j : ℕ) : Type 0 where
  pub rule : r < length rules / 3
  pub pair : word rules r 2 ≢ 65535
  pub from : i < n
  pub middle : k < n
  pub to : j < n

pub arguments_good : (n : ℕ) (rules : List ℕ) (r i k j : ℕ) → (argument_check n rules r i k j ≡ Good) ↔ Arguments n rules r i k j
unfolding argument_check
arguments_good n rules r i k j = (
  λ e.
      let a = (and_good _ _).0 e in
      let b = (and_good _ _).0 a.1 in
      let c = (and_good _ _).0 b.1 in
      let p = (pair_true rules r).0 ((must_good _ WrongArgument 0).0 a.0) in
      record {
        rule = p.0;
        pair = p.1;
        from = ltb-true _ _ ((must_good _ WrongArgument 1).0 b.0);
        middle = ltb-true _ _ ((must_good _ WrongArgument 2).0 c.0);
        to = ltb-true _ _ ((must_good _ WrongArgument 3).0 c.1);
      },
  λ h.
      (and_good _ _).1 (
        (must_good _ WrongArgument 0).1 ((pair_true rules r).1 (h.rule, h.pair)),
        (and_good _ _).1 (
          (must_good _ WrongArgument 1).1 (lt-ltb _ _ h.from),
          (and_good _ _).1 ((must_good _ WrongArgument 2).1 (lt-ltb _ _ h.middle), (must_good _ WrongArgument 3).1 (lt-ltb _ _ h.to)),
        ),
      ),
)

pub right_arguments : (n : ℕ) (rules : List ℕ) (r i k j : ℕ) → argument_check n rules r i k j ≡ Good → Arguments n rules r i k j
right_arguments n rules r i k j = (arguments_good n rules r i k j).0

module _ (numbers : Numbers) (rules edges : List ℕ) where
  module _ (r i k j : ℕ) where
    pub call_good : (have : ℕ) → (ask_check numbers rules edges have r i k j ≡ Good)
        ↔ (StartReady numbers rules edges have × Arguments numbers.nodes rules r i k j)
    unfolding ask_check
    call_good have = (
      λ e.
          let a = (and_good _ _).0 e in
          let b = (and_good _ _).0 a.1 in (
            record { lists = accepted numbers rules edges a.0; room = (room_good _ _ _).0 b.1 },
            (arguments_good _ rules r i k j).0 b.0,
          ),
      λ h.
          (and_good _ _).1 (
            accepting numbers rules edges h.0.lists,
            (and_good _ _).1 ((arguments_good _ rules r i k j).1 h.1, (room_good _ _ _).1 h.0.room),
          ),
    )

    -- ---- the step, check by check
    module _ (t : List ℕ) where
      pub step_stop : (f : Refusal) → ask_check numbers rules edges (length t) r i k j ≡ Err f
          → step_of numbers rules edges t r i k j ≡ (Err f, t)
      unfolding step_of step_check
      step_stop f e = rw (and_stop (step_cells_check numbers.nodes (length rules / 3) t (ask_of rules r i k j)) e)

      pub step_next : ask_check numbers rules edges (length t) r i k j ≡ Good
          → step_of numbers rules edges t r i k j ≡ cells_step numbers.nodes (length rules / 3) t (ask_of rules r i k j)
      unfolding step_of step_check cells_step
      step_next e = rw (and_next {y = step_cells_check numbers.nodes (length rules / 3) t (ask_of rules r i k j)} e)

module _ (n : ℕ) (t : List ℕ) (s : Step) where
  -- the candidate entered, or 12, is the step by its rule
  pub taken_step : get_or t (target_of n s) 0 ≤ EMPTY
      → taken t (target_of n s) (min EMPTY (offer n t s)) ≡ step_answer (height_check n t s) (wins n t s) t (step n t s)
  unfolding taken height_check must too_high wins step entered_in
  taken_step few =
      cases (ltb (offer n t s) (get_or t (target_of n s) 0))
      (λ w. let e : min EMPTY (offer n t s) ≡ offer n t s = omega (arith, ltb-true (offer n t s) (get_or t (target_of n s) 0) w) in rw e)
      (λ f.
      let l = ltb-false (offer n t s) (get_or t (target_of n s) 0) f in
      taken_no t (target_of n s) (min EMPTY (offer n t s)) (omega arith) ∙ rw (f, step_keeps n t s l))

  module _ (rules : ℕ) where
    pub cells_stop : (f : Refusal) → usable_check n rules t (target_of n s) (left_of n s) (right_of n s) ≡ Err f
        → cells_step n rules t s ≡ (Err f, t)
    unfolding cells_step step_cells_check
    cells_stop f e = rw (and_stop (height_check n t s) e)

    pub cells_next : usable_check n rules t (target_of n s) (left_of n s) (right_of n s) ≡ Good → get_or t (target_of n s) 0 ≤ EMPTY
        → cells_step n rules t s
        ≡ taken t (target_of n s) (offered (get_or t (left_of n s) 0) (get_or t (right_of n s) 0) s.middle s.rule)
    unfolding cells_step step_cells_check offered offer
    cells_next e few = rw (and_next {y = height_check n t s} e) (sym (taken_step few))

module _ (numbers : Numbers) (rules edges t : List ℕ) (r i k j : ℕ) where
  pub step_refused : {x : Result Bool Refusal} (f : Refusal) → x ≡ Err f → ask_check numbers rules edges (length t) r i k j ≡ Err f
      → (x, t) ≡ step_of numbers rules edges t r i k j
  step_refused f e h = rw e (sym (step_stop numbers rules edges r i k j t f h))
