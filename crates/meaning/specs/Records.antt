-- The records of a list of three words each, as code reads them. Assumes nothing.
use Rattle.std.specs.Prelude.{List, cond, ℕ, eqb}
use Rattle.meaning.specs.Net.{word}
use Rattle.meaning.specs.declared.Rule.{Rule}
use Rattle.meaning.specs.declared.Rule.TheVariants.{Label, Pair}
use Rattle.meaning.specs.declared.EdgeWords.{EdgeWords}

-- the rule of a record: a third word 65,535 marks a label rule
unfoldable pub rule_of : ℕ → ℕ → ℕ → Rule
rule_of a b c = cond (eqb c 65535) (Label a b) (Pair a b c)

-- rule r of a list
abbrev pub rule_at : List ℕ → ℕ → Rule
rule_at rules r = rule_of (word rules r 0) (word rules r 1) (word rules r 2)

-- edge e of a list
abbrev pub edge_at : List ℕ → ℕ → EdgeWords
edge_at edges e = record { from = word edges e 0; label = word edges e 1; to = word edges e 2 }
