-- The public step: what it answers and leaves, for every input; and sequences of accepted steps. Assumes nothing.
use Rattle.std.specs.Prelude.{◌≡◌, List, [], ◌∷◌, map, Bool, not, ◌&&◌, ℕ, ◌/◌, length, get_or, eqb, ltb, Result, Ok, Err}
use Rattle.words.specs.Refusals.{Refusal, must, ◌and_then◌, Check}
use Rattle.words.specs.declared.Reason.TheVariants.{WrongCell, TooHigh, WrongArgument}
use Rattle.meaning.specs.Net.{word}
use Rattle.meaning.specs.Steps.{Step, target_of, left_of, right_of, step, wins, usable, too_high}
use Rattle.meaning.specs.Passes.{ask_of}
use Rattle.numbers.specs.declared.Numbers.{Numbers}
use Rattle.numbers.specs.Numbers.{cells_of, room_check}
use Rattle.lists.specs.Lists.{lists_check}
use Rattle.step.specs.declared.Ask.{Ask}
use Rattle.step.specs.Entering.{step_answer}

-- ---- the single step

-- rule r is there, and is a pair rule
unfoldable pub is_pair_rule : List ℕ → ℕ → Bool
is_pair_rule rules r = ltb r (length rules / 3) && not (eqb (word rules r 2) 65535)

-- the arguments, numbered from 0: a pair rule and three nodes
unfoldable pub argument_check : ℕ → List ℕ → ℕ → ℕ → ℕ → ℕ → Check
argument_check n rules r i k j =
    must (is_pair_rule rules r) WrongArgument 0
    and_then must (ltb i n) WrongArgument 1
    and_then must (ltb k n) WrongArgument 2
    and_then must (ltb j n) WrongArgument 3

-- the first of the three cells, in this order, whose key is none that a cell may hold
unfoldable pub usable_check : ℕ → ℕ → List ℕ → ℕ → ℕ → ℕ → Check
usable_check n rules t target left right =
    must (usable n rules (get_or t target 0)) WrongCell target
    and_then must (usable n rules (get_or t left 0)) WrongCell left
    and_then must (usable n rules (get_or t right 0)) WrongCell right

-- a key that would win and be too high, at the target
unfoldable pub height_check : ℕ → List ℕ → Step → Check
height_check n t s = must (not (too_high n t s)) TooHigh (target_of n s)

-- what a step on a table of so many words asks before it reads a cell: the lists, the arguments, the room
unfoldable pub ask_check : Numbers → List ℕ → List ℕ → ℕ → ℕ → ℕ → ℕ → ℕ → Check
ask_check numbers rules edges have r i k j =
    lists_check numbers rules edges
    and_then argument_check numbers.nodes rules r i k j
    and_then room_check 0 (cells_of numbers) have

-- what it asks of the cells
unfoldable pub step_cells_check : ℕ → ℕ → List ℕ → Step → Check
step_cells_check n rules t s = usable_check n rules t (target_of n s) (left_of n s) (right_of n s) and_then height_check n t s

-- all that a step asks, in its order
unfoldable pub step_check : Numbers → List ℕ → List ℕ → List ℕ → ℕ → ℕ → ℕ → ℕ → Check
step_check numbers rules edges t r i k j =
    ask_check numbers rules edges (length t) r i k j
    and_then step_cells_check numbers.nodes (length rules / 3) t (ask_of rules r i k j)

-- the whole promise of a step, as one equation against the step by its rule
unfoldable pub step_of : Numbers → List ℕ → List ℕ → List ℕ → ℕ → ℕ → ℕ → ℕ → Result Bool Refusal × List ℕ
step_of numbers rules edges t r i k j =
    step_answer (step_check numbers rules edges t r i k j)
    (wins numbers.nodes t (ask_of rules r i k j)) t (step numbers.nodes t (ask_of rules r i k j))

-- the part of it that reads cells
unfoldable pub cells_step : ℕ → ℕ → List ℕ → Step → Result Bool Refusal × List ℕ
cells_step n rules t s = step_answer (step_cells_check n rules t s) (wins n t s) t (step n t s)

-- ---- sequences of accepted steps

-- the steps that calls with these arguments ask for
abbrev pub asked : List ℕ → List Ask → List Step
asked rules asks = map (λ a. ask_of rules a.rule a.from a.middle a.to) asks

-- a step that is not refused: changed or unchanged
abbrev pub Accepts : Result Bool Refusal → Type 0
Accepts (Ok changed) = Unit {0}
Accepts (Err r) = ⊥

-- Calls .. t asks u: calls of the step with the arguments asks, one after the other and each accepted, turn the table t into u
pub data Calls (numbers : Numbers) (rules edges : List ℕ) : List ℕ → List Ask → List ℕ → Type 0 where
  none : {t : List ℕ} → Calls numbers rules edges t [] t
  call : {t u v : List ℕ} {a : Ask} {asks : List Ask} (answer : Result Bool Refusal) → Accepts answer
      → (answer, u) ≡ step_of numbers rules edges t a.rule a.from a.middle a.to
      → Calls numbers rules edges u asks v → Calls numbers rules edges t (a ∷ asks) v
