-- Lists of words in bytes, k bytes to a word, the lowest byte first. Assumes nothing.
use Rattle.std.specs.Prelude.{ℕ, zero, suc, ◌*◌, ◌/◌, ◌%◌, min, List, [], ◌∷◌, ◌++◌, length, take}
use Rattle.words.specs.Bytes.{le_at}
use Rattle.words.specs.Tab.{tab, over}

-- the n words that s starts with
unfoldable pub unpacked : ℕ → List ℕ → ℕ → List ℕ
unpacked k s n = tab (λ w. le_at k s (k * w)) n

-- the n lowest bytes of x
unfoldable pub le_bytes : ℕ → ℕ → List ℕ
le_bytes zero x = []
le_bytes (suc n) x = x % 256 ∷ le_bytes n (x / 256)

-- the bytes of the words, one word behind the other
unfoldable pub packed : ℕ → List ℕ → List ℕ
packed k [] = []
packed k (w ∷ ws) = le_bytes k w ++ packed k ws

-- what unpacking leaves in the words, and packing in the bytes: as many words as both have room for, the rest as it was
abbrev pub unpacked_into : ℕ → List ℕ → List ℕ → List ℕ
unpacked_into k s ws = over (unpacked k s (min (length s / k) (length ws))) ws

abbrev pub packed_into : ℕ → List ℕ → List ℕ → List ℕ
packed_into k ws s = over (packed k (take (min (length ws) (length s / k)) ws)) s
