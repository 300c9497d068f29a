-- Lists made index by index, and lists whose front is written. Assumes nothing.
use Rattle.std.specs.Prelude.{ℕ, zero, suc, List, [], ◌∷◌, ◌++◌, length, drop}

-- f 0, f 1, .., f (n - 1)
unfoldable pub tab : (ℕ → ℕ) → ℕ → List ℕ
tab f zero = []
tab f (suc n) = tab f n ++ (f n ∷ [])

-- the list l after the words w were written from its start on: w, then the rest of l, which keeps its values
unfoldable pub over : List ℕ → List ℕ → List ℕ
over w l = w ++ drop (length w) l
