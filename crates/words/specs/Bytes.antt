-- Little-endian numbers in a list of bytes, at every size. Assumes nothing.
use Rattle.std.specs.Prelude.{ℕ, zero, suc, ◌+◌, ◌*◌, ◌/◌, ◌%◌, List, get_or, set}

-- the number that the n bytes from position p on make, the lowest first; a byte past the end counts as 0
unfoldable pub le_at : ℕ → List ℕ → ℕ → ℕ
le_at zero s p = 0
le_at (suc n) s p = get_or s p 0 + 256 * le_at n s (p + 1)

-- the list with the n lowest bytes of x from position p on, the lowest first; a byte past the end is dropped
unfoldable pub put_le : ℕ → List ℕ → ℕ → ℕ → List ℕ
put_le zero s p x = s
put_le (suc n) s p x = put_le n (set s p (x % 256)) (p + 1) (x / 256)
