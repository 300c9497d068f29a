-- What a query reads in a table that the table check accepts. Assumes nothing.
use Rattle.std.specs.Prelude.{ℕ}
use Rattle.meaning.specs.Net.{Net}
use Rattle.meaning.specs.Table.{at}
use Rattle.lists.specs.Lists.{net}
use Rattle.numbers.specs.declared.Numbers.{Numbers}
use Rattle.witness.specs.declared.checked.CheckedTable.{CheckedTable}

abbrev pub checked_numbers : CheckedTable → Numbers
checked_numbers t = t.held.lists.numbers

-- the grammar and the graph that it is a table of
abbrev pub checked_net : CheckedTable → Net
checked_net t = net t.held.lists.numbers t.held.lists.rules.now t.held.lists.edges.now

-- the key and the length of cell (A, i, j)
abbrev pub key_at : CheckedTable → ℕ → ℕ → ℕ → ℕ
key_at t A i j = at t.held.lists.numbers.nodes t.held.table.now A i j

abbrev pub length_at : CheckedTable → ℕ → ℕ → ℕ → ℕ
length_at t A i j = at t.held.lists.numbers.nodes t.held.lengths.now A i j
