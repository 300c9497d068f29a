-- The word of a cell of the table: an empty cell, and the key of a filled one. Assumes nothing.
use Rattle.std.specs.Prelude.{ℕ, ◌+◌, ◌*◌, ◌/◌, ◌%◌}
use Rattle.key.specs.declared.Parts.{Parts}

-- the word of an empty cell: 2^64 − 1, above every key
abbrev pub EMPTY : ℕ
EMPTY = 18446744073709551615

-- the word of a filled cell: its height from bit 32 on, its middle in bits 16 to 31, its rule number in bits 0 to 15
abbrev pub key : ℕ → ℕ → ℕ → ℕ
key height middle rule = height * 4294967296 + middle * 65536 + rule

abbrev pub height_of : ℕ → ℕ
height_of word = word / 4294967296

abbrev pub middle_of : ℕ → ℕ
middle_of word = word / 65536 % 65536

abbrev pub rule_of : ℕ → ℕ
rule_of word = word % 65536

abbrev pub parts_of : ℕ → Parts
parts_of word = record { height = height_of word; middle = middle_of word; rule = rule_of word }

-- the greatest height that the run and a step write
abbrev pub HIGHEST : ℕ
HIGHEST = 131072
