-- One write to a table, and the start as a sequence of them: what the code's inner functions do. Assumes nothing.
use Rattle.std.specs.Prelude.{List, cond, ℕ, zero, suc, ◌/◌, min, length, get_or, set, replicate, eqb}
use Rattle.words.specs.Tab.{over}
use Rattle.key.specs.Keys.{EMPTY, key}
use Rattle.meaning.specs.Net.{word}
use Rattle.meaning.specs.Table.{cell, cell_count}

-- the table where word c has become κ, if that is smaller
unfoldable pub entered_in : List ℕ → ℕ → ℕ → List ℕ
entered_in t c κ = set t c (min (get_or t c 0) κ)

-- the first c words emptied
unfoldable pub cleared : ℕ → List ℕ → List ℕ
cleared c t = over (replicate (min c (length t)) EMPTY) t

-- edge e entered for rule r, A → x, if it has the label x
unfoldable pub leaf_in : ℕ → List ℕ → ℕ → ℕ → ℕ → List ℕ → ℕ → List ℕ
leaf_in n edges A x r t e =
    cond (eqb (word edges e 1) x)
    (entered_in t (cell n A (word edges e 0) (word edges e 2)) (key 1 (word edges e 0) r)) t

-- the first e edges
unfoldable pub edges_in : ℕ → List ℕ → ℕ → ℕ → ℕ → List ℕ → ℕ → List ℕ
edges_in n edges A x r t zero = t
edges_in n edges A x r t (suc e) = leaf_in n edges A x r (edges_in n edges A x r t e) e

-- rule r, if it is a label rule, with every edge
unfoldable pub rule_in : ℕ → List ℕ → List ℕ → List ℕ → ℕ → List ℕ
rule_in n rules edges t r =
    cond (eqb (word rules r 2) 65535) (edges_in n edges (word rules r 0) (word rules r 1) r t (length edges / 3)) t

-- the first r rules
unfoldable pub rules_in : ℕ → List ℕ → List ℕ → List ℕ → ℕ → List ℕ
rules_in n rules edges t zero = t
rules_in n rules edges t (suc r) = rule_in n rules edges (rules_in n rules edges t r) r

-- the cells emptied, then the first r rules entered
abbrev pub begun : ℕ → ℕ → List ℕ → List ℕ → List ℕ → ℕ → List ℕ
begun n m rules edges t r = rules_in n rules edges (cleared (cell_count n m) t) r
