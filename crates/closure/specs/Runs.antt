-- The run: what it answers and leaves, for every input. Assumes nothing.
use Rattle.std.specs.Prelude.{◌≡◌, List, true, ℕ, drop, replicate, Result, Ok, Err}
use Rattle.key.specs.Keys.{EMPTY}
use Rattle.words.specs.declared.Reason.TheVariants.{TooHigh}
use Rattle.words.specs.Refusals.{Refusal, ◌and_then◌, Check}
use Rattle.words.specs.Tab.{over}
use Rattle.meaning.specs.Net.{Net}
use Rattle.meaning.specs.Table.{cells, StartTable}
use Rattle.meaning.specs.Steps.{Step, Possible, All, after, target_of, too_high}
use Rattle.meaning.specs.Final.{FinalTable}
use Rattle.meaning.specs.Lengths.{Lengths, depth}
use Rattle.numbers.specs.declared.Numbers.{Numbers}
use Rattle.numbers.specs.Numbers.{cells_of, room_check}
use Rattle.lists.specs.Lists.{lists_check}

-- the lists are refused first, then a table of fewer words than there are cells, named 0, then such lengths, named 1
unfoldable pub run_check : Numbers → List ℕ → List ℕ → ℕ → ℕ → Check
run_check numbers rules edges table lengths =
    lists_check numbers rules edges
    and_then room_check 0 (cells_of numbers) table
    and_then room_check 1 (cells_of numbers) lengths

-- the table is the final one, with its lengths, and d is its depth; words past the cells keep their values
pub record Completed (g : Net) (t ls t' ls' : List ℕ) (d : ℕ) : Type 0 where
  pub final : FinalTable g t'
  pub lengths : Lengths g t' ls'
  pub deep : d ≡ depth t' (cells g)
  pub kept : drop (cells g) t' ≡ drop (cells g) t
  pub kept_lengths : drop (cells g) ls' ≡ drop (cells g) ls

-- from a start, possible steps reach a table in which one more step would win at cell c with a height over 131,072
pub record High12 (g : Net) (c : ℕ) : Type 0 where
  pub start : List ℕ
  pub starts : StartTable g start
  pub steps : List Step
  pub only : All (Possible g) steps
  pub step : Step
  pub can : Possible g step
  pub high : too_high g.nodes (after g.nodes start steps) step ≡ true
  pub place : c ≡ target_of g.nodes step

-- refused for a step that is too high: every cell is left empty and every length 0
pub record Stopped (g : Net) (t ls t' ls' : List ℕ) (r : Refusal) : Type 0 where
  pub cell : ℕ
  pub refusal : r ≡ record { reason = TooHigh; place = cell }
  pub high : High12 g cell
  pub emptied : t' ≡ over (replicate (cells g) EMPTY) t
  pub zeroed : ls' ≡ over (replicate (cells g) 0) ls

-- any other refusal changes nothing
pub record Unchanged (t ls t' ls' : List ℕ) : Type 0 where
  pub table : t' ≡ t
  pub lengths : ls' ≡ ls

-- what the run answers and leaves, where its checks answer so
abbrev pub RunIs : Check → Net → List ℕ → List ℕ → List ℕ → List ℕ → Result ℕ Refusal → Type 0
RunIs (Ok _) g t ls t' ls' (Ok d) = Completed g t ls t' ls' d
RunIs (Ok _) g t ls t' ls' (Err r) = Stopped g t ls t' ls' r
RunIs (Err r) g t ls t' ls' a = (a ≡ Err r) × Unchanged t ls t' ls'
