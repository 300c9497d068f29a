-- The start, the table check and the recorded path, computed from the two lists. Assumes nothing.
use Rattle.std.specs.Prelude.{List, [], ◌∷◌, ◌++◌, Bool, true, false, not, cond, ◌&&◌, ℕ, zero, suc, ◌/◌, ◌%◌, length, eqb, ltb}
use Rattle.key.specs.Keys.{EMPTY, key, height_of, middle_of, rule_of}
use Rattle.words.specs.First.{first}
use Rattle.words.specs.Tab.{tab}
use Rattle.meaning.specs.Net.{word}
use Rattle.meaning.specs.Trees.{joined}
use Rattle.meaning.specs.Table.{at, cell_count}
use Rattle.meaning.specs.Lengths.{held_sum}

-- edge e goes from i to j with label x
unfoldable pub is_edge : List ℕ → ℕ → ℕ → ℕ → ℕ → Bool
is_edge edges i x j e = eqb (word edges e 0) i && (eqb (word edges e 1) x && eqb (word edges e 2) j)

-- the first edge in the list from i to j with label x, or the number of edges where there is none
unfoldable pub lowest_edge : List ℕ → ℕ → ℕ → ℕ → ℕ
lowest_edge edges i x j = first (is_edge edges i x j) (length edges / 3)

-- rule r is a pair rule for A
unfoldable pub is_pair : List ℕ → ℕ → ℕ → Bool
is_pair rules A r = ltb r (length rules / 3) && (eqb (word rules r 0) A && not (eqb (word rules r 2) 65535))

-- rule r is a label rule for A, and some edge from i to j has its label
unfoldable pub is_leaf : List ℕ → List ℕ → ℕ → ℕ → ℕ → ℕ → Bool
is_leaf rules edges A i j r =
    ltb r (length rules / 3)
    && (eqb (word rules r 0) A && (eqb (word rules r 2) 65535 && ltb (lowest_edge edges i (word rules r 1) j) (length edges / 3)))

-- the start's word of a cell from r, the lowest rule that fits: a height 1 key with middle i, or EMPTY where none does
unfoldable pub leaf_word : ℕ → ℕ → ℕ → ℕ
leaf_word i r count = cond (ltb r count) (key 1 i r) EMPTY

unfoldable pub start_word : List ℕ → List ℕ → ℕ → ℕ → ℕ → ℕ
start_word rules edges A i j = leaf_word i (first (is_leaf rules edges A i j) (length rules / 3)) (length rules / 3)

unfoldable pub start_table : ℕ → ℕ → List ℕ → List ℕ → List ℕ
start_table n m rules edges = tab (λ c. start_word rules edges (c / n / n) (c / n % n) (c % n)) (cell_count n m)

-- what the table check asks of the sides (B, i, k) and (C, k, j) of a cell of height h and length l
unfoldable pub right_sides : ℕ → List ℕ → List ℕ → ℕ → ℕ → ℕ → ℕ → ℕ → ℕ → ℕ → Bool
right_sides n t ls i j h l k B C =
    ltb k n
    && (ltb (at n t B i k) EMPTY
    && (ltb (at n t C k j) EMPTY
    && (eqb h (joined (height_of (at n t B i k)) (height_of (at n t C k j))) && eqb l (held_sum (at n ls B i k) (at n ls C k j)))))

-- and of a cell (A, i, j) with the word v and the length l
unfoldable pub right_word : ℕ → List ℕ → List ℕ → List ℕ → List ℕ → ℕ → ℕ → ℕ → ℕ → ℕ → Bool
right_word n rules edges t ls A i j v l =
    cond (eqb v EMPTY) (eqb l 0) (cond (eqb (height_of v) 1)
    (is_leaf rules edges A i j (rule_of v) && (eqb (middle_of v) i && eqb l 1))
    (ltb v EMPTY
    && (ltb 1 (height_of v)
    && (is_pair rules A (rule_of v)
    && right_sides n t ls i j (height_of v) l (middle_of v) (word rules (rule_of v) 1) (word rules (rule_of v) 2)))))

unfoldable pub right_cell : ℕ → List ℕ → List ℕ → List ℕ → List ℕ → ℕ → ℕ → ℕ → Bool
right_cell n rules edges t ls A i j = right_word n rules edges t ls A i j (at n t A i j) (at n ls A i j)

-- the path that a table records for a cell, down to a depth of f
unfoldable pub path_of : ℕ → List ℕ → List ℕ → List ℕ → ℕ → ℕ → ℕ → ℕ → List ℕ
path_of n rules edges t zero A i j = []
path_of n rules edges t (suc f) A i j =
    let v = at n t A i j in
    elim (eqb (height_of v) 1) [
      | true ↦ lowest_edge edges i (word rules (rule_of v) 1) j ∷ []
      | false ↦ path_of n rules edges t f (word rules (rule_of v) 1) i (middle_of v) ++ path_of n rules edges t f (word rules (rule_of v) 2) (middle_of v) j
    ]
