-- A step's candidate as a word, and what entering it answers and leaves: what the code's inner functions do. Assumes nothing.
use Rattle.std.specs.Prelude.{List, Bool, not, ◌&&◌, ℕ, min, get_or, ltb, Result, Ok, Err}
use Rattle.words.specs.Refusals.{Refusal, must, Check}
use Rattle.words.specs.declared.Reason.TheVariants.{TooHigh}
use Rattle.key.specs.Keys.{EMPTY, HIGHEST, height_of}
use Rattle.meaning.specs.Steps.{Step, target_of, left_of, right_of, candidate}
use Rattle.start.specs.Entering.{entered_in}
use Rattle.step.specs.declared.StepCells.{StepCells}

-- a candidate as a 64-bit word: one that would be larger wins nowhere, as EMPTY does
unfoldable pub offered : ℕ → ℕ → ℕ → ℕ → ℕ
offered x y k r = min EMPTY (candidate x y k r)

-- a step's own numbers and the cells of its table with n nodes
abbrev pub by_cells : ℕ → Step → StepCells
by_cells n s = record { rule = s.rule; middle = s.middle; target = target_of n s; left = left_of n s; right = right_of n s }

-- the answer, whether the table changed, and the table after it: from a check, whether the key wins, the table and the
-- table that holds it
abbrev pub step_answer : Check → Bool → List ℕ → List ℕ → Result Bool Refusal × List ℕ
step_answer (Ok _) b t t' = (Ok b, t')
step_answer (Err r) b t t' = (Err r, t)

-- κ entered in word c; refused where it would win and is too high
unfoldable pub taken : List ℕ → ℕ → ℕ → Result Bool Refusal × List ℕ
taken t c κ =
    step_answer (must (not (ltb κ (get_or t c 0) && ltb HIGHEST (height_of κ))) TooHigh c) (ltb κ (get_or t c 0)) t (entered_in t c κ)
