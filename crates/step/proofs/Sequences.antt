-- An accepted sequence of calls of the step is a sequence of steps by their rule, so what holds of any order of steps holds
-- of these calls;
-- and from the start on no possible step is refused. Assumes nothing.
use mathlib.Core.Path.{◌≡◌, refl, sym, ap, subst, ◌∙◌}
use mathlib.Core.List.{List, flatten}
use mathlib.Core.Bool.{Bool, false, not}
use Prim.Native.Nat.{ℕ, ◌+◌, ◌≤◌, ◌<◌}
use native.Mathlib.Omega.{arith}
use lib.ListN.{length}
use Rattle.words.proofs.Refusals.{must_good, and_good}
use Rattle.words.specs.declared.Reason.TheVariants.{WrongCell, TooHigh}
use Rattle.key.specs.Keys.{EMPTY, height_of}
use Rattle.meaning.specs.Net.{Net, Sane}
use Rattle.meaning.specs.Trees.{Reach, Least}
use Rattle.meaning.specs.Table.{at, Each}
use Rattle.meaning.specs.Final.{FinalCell, FinalTable}
use Rattle.meaning.specs.Steps.{Step, Possible, step, wins, after, All, Passes, Still}
use Rattle.meaning.specs.Passes.{ask_of}
use Rattle.meaning.proofs.After.{after_all_lem, after-length}
use Rattle.meaning.proofs.Steps.{step_keeps, wins_false}
use Rattle.meaning.proofs.Start.{start_sound, start_leaves}
use Rattle.meaning.proofs.AnyOrder.{sound_always, passes_final, start_final}
use Rattle.meaning.proofs.Heights.{accepted_always}
use Rattle.meaning.proofs.PassOf.{ask_is, ask_possible}
use Rattle.numbers.specs.declared.Numbers.{Numbers}
use Rattle.lists.specs.Lists.{net}
use Rattle.lists.proofs.Right.{RightLists, sane}
use Rattle.start.specs.Calls.{StartCall}
use Rattle.start.proofs.Order.{start_good}
use Rattle.words.specs.Refusals.{Refusal, Check, Good}
use Rattle.step.specs.Entering.{step_answer}
use Rattle.step.specs.Calls.{usable_check, height_check, step_cells_check, step_check, step_of, Accepts, asked, Calls, none, call}
use Rattle.step.specs.declared.Ask.{Ask}
use Rattle.std.specs.Prelude.{Result, Ok, Err}
use Rattle.step.proofs.Order.{Arguments, call_good}

-- an answer that accepts comes of a good check, and leaves the table after the step
by_check : (c : Check) (w : Bool) (t t' u : List ℕ) (a : Result Bool Refusal) → Accepts a → (a, u) ≡ step_answer c w t t' → (c ≡ Good) × (u ≡ t')
by_check (Ok _) w t t' u a acc e = (refl, ap (λ (z : Result Bool Refusal × List ℕ). z.1) e)
by_check (Err r) w t t' u a acc e = absurd (subst Accepts (ap (λ (z : Result Bool Refusal × List ℕ). z.0) e) acc)

good_accepts : (w : Bool) (t t' : List ℕ) → Accepts (step_answer Good w t t').0
good_accepts w t t' = tt

-- an answer of unchanged comes where no smaller key was offered
by_unchanged : (c : Check) (w : Bool) (t t' : List ℕ) → (step_answer c w t t').0 ≡ Ok false → w ≡ false
by_unchanged (Ok _) w t t' e = cc
by_unchanged (Err r) w t t' e = let z : ◌≡◌ {A = ℕ} 0 1 = cc in absurd (omega arith)

module _ (numbers : Numbers) (rules edges : List ℕ) where
  module _ (t : List ℕ) (r i k j : ℕ) where
    -- an accepted call makes a possible step
    pub record Stepped (u : List ℕ) : Type 0 where
      pub can : Possible (net numbers rules edges) (ask_of rules r i k j)
      pub is : u ≡ step numbers.nodes t (ask_of rules r i k j)

    pub accepted_step : (u : List ℕ) (a : Result Bool Refusal) → Accepts a → (a, u) ≡ step_of numbers rules edges t r i k j → Stepped u
    unfolding step_of step_check
    accepted_step u a acc e =
        let b = by_check _ _ t _ u a acc e in
        let p = ((call_good numbers rules edges r i k j (length t)).0 ((and_good _ _).0 b.0).0).1 in
        record {
          can = ask_possible numbers.nodes numbers.nonterminals rules edges r i k j p.rule p.pair p.from p.middle p.to;
          is = b.1;
        }

    -- a call that answers unchanged made a step that changes nothing
    unchanged_step : (step_of numbers rules edges t r i k j).0 ≡ Ok false → step numbers.nodes t (ask_of rules r i k j) ≡ t
    unfolding step_of
    unchanged_step e =
        step_keeps numbers.nodes t (ask_of rules r i k j)
        (wins_false numbers.nodes t (ask_of rules r i k j)
        (by_unchanged (step_check numbers rules edges t r i k j) _ t (step numbers.nodes t (ask_of rules r i k j)) e))

  -- the table after accepted calls is the table after possible steps
  pub record Steps (t : List ℕ) (asks : List Ask) (u : List ℕ) : Type 0 where
    pub can : All (Possible (net numbers rules edges)) (asked rules asks)
    pub is : u ≡ after numbers.nodes t (asked rules asks)

  pub calls_steps : {t u : List ℕ} {asks : List Ask} → Calls numbers rules edges t asks u → Steps t asks u
  calls_steps none = record { can = tt; is = refl }
  calls_steps (call {t} {u} {v} {a} {asks} answer acc e more) =
      let s = accepted_step t a.rule a.from a.middle a.to u answer acc e in
      let m = calls_steps more in
      record { can = (s.can, m.can); is = m.is ∙ ap (λ x. after numbers.nodes x (asked rules asks)) s.is }

  -- a table on which every call with arguments in range answers unchanged is still
  pub calls_still : (t : List ℕ)
      → ((r i k j : ℕ) → Arguments numbers.nodes rules r i k j → (step_of numbers rules edges t r i k j).0 ≡ Ok false)
      → Still (net numbers rules edges) t
  calls_still t same = record {
    step = λ s can.
        rw (ask_is s can.rule)
        (unchanged_step t s.rule s.from s.middle s.to
        (same s.rule s.from s.middle s.to
        (record { rule = can.rule.inside; pair = can.rule.pair; from = can.from; middle = can.middle; to = can.to })));
  }

  module _ {t₀ t u : List ℕ} {asks : List Ask} (start : StartCall numbers rules edges t₀ Good t) (calls : Calls numbers rules edges t asks u) where
    abbrev g : Net
    g = net numbers rules edges

    lists : RightLists numbers rules edges
    lists = ((start_good numbers rules edges (length t₀)).0 (sym start.answer)).lists

    ok : Sane g
    ok = sane numbers rules edges lists

    steps : Steps t asks u
    steps = calls_steps calls

    -- each filled cell has a real path with a tree of the recorded height
    pub calls_sound : Each g (λ A i j. at g.nodes u A i j < EMPTY → (p : List ℕ) × Reach g A i j (height_of (at g.nodes u A i j)) p)
    calls_sound = rw steps.is (sound_always ok t (start_sound ok t start.leaves.start) (asked rules asks) steps.can)

    -- after p passes in turn each cell of least height p + 1 or less is final
    pub calls_passes : (pp : List (List Step)) → Passes g pp → asked rules asks ≡ flatten pp
        → (A i j h : ℕ) → Least g A i j h → h ≤ 1 + length pp → FinalCell g A i j (at g.nodes u A i j)
    calls_passes pp passes split =
        rw (steps.is, split, ← (after_all_lem g.nodes t pp))
        (passes_final ok t (start_sound ok t start.leaves.start) (start_leaves ok t start.leaves.start) pp passes)

    -- and a table that no step would change is final
    pub calls_final : Still g u → FinalTable g u
    calls_final = rw steps.is (start_final ok t start.leaves.start (asked rules asks) steps.can)

    module _ (r i k j : ℕ) (args : Arguments numbers.nodes rules r i k j) where
      -- no step with arguments in range is refused
      pub never_refused : step_check numbers rules edges u r i k j ≡ Good
      unfolding step_check step_cells_check usable_check height_check
      never_refused =
          let can =
          ask_possible numbers.nodes numbers.nonterminals rules edges r i k j args.rule args.pair args.from args.middle args.to in
          let free = accepted_always ok t start.leaves.start (asked rules asks) steps.can (ask_of rules r i k j) can in
          (and_good _ _).1 (
            (call_good numbers rules edges r i k j (length u)).1
                (record { lists = lists; room = rw (steps.is, after-length) start.leaves.start.long }, args),
            rw steps.is
                ((and_good _ _).1 (
                  (and_good _ _).1 (
                    (must_good _ WrongCell _).1 free.target,
                    (and_good _ _).1 ((must_good _ WrongCell _).1 free.left, (must_good _ WrongCell _).1 free.right),
                  ),
                  (must_good _ TooHigh _).1 (ap not free.low),
                )),
          )

      pub always_accepted : Accepts (step_of numbers rules edges u r i k j).0
      unfolding step_of
      always_accepted =
          rw never_refused
          (good_accepts (wins numbers.nodes u (ask_of rules r i k j)) u (step numbers.nodes u (ask_of rules r i k j)))
