-- What holds of a table, a pair rule and a list of rules of a size. Assumes nothing.
use Rattle.std.specs.Prelude.{List, ℕ, ◌/◌, ◌≤◌, ◌<◌, length, get_or}
use Rattle.key.specs.Keys.{EMPTY, HIGHEST, height_of}
use Rattle.meaning.specs.Net.{PairRule}
use Rattle.meaning.specs.Table.{cell_count}
use Rattle.closure.specs.declared.Size.{Size}

abbrev pub count : Size → ℕ
count z = cell_count z.nodes z.nonterminals

-- a table with room for every cell and no height over 131,072
pub record LowTable (z : Size) (t : List ℕ) : Type 0 where
  pub long : count z ≤ length t
  pub cell : (c : ℕ) → c < count z → get_or t c 0 < EMPTY → height_of (get_or t c 0) ≤ HIGHEST

-- three nonterminals that there are: the head and the sides of a pair rule
pub record RuleInside (z : Size) (A B C : ℕ) : Type 0 where
  pub head : A < z.nonterminals
  pub left : B < z.nonterminals
  pub right : C < z.nonterminals

-- rules as the lists' checks leave them: few, and every pair rule of nonterminals that there are
pub record RulesInside (z : Size) (rules : List ℕ) : Type 0 where
  pub few : length rules / 3 ≤ 256
  pub pair : (r A B C : ℕ) → PairRule rules r A B C → RuleInside z A B C
