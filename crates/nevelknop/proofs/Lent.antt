-- Words of lent bytes in a local array, and back. Assumes nothing.
use mathlib.Core.Path.{◌≡◌, refl, sym, ap, ◌∙◌}
use mathlib.Core.List.{List, map}
use Prim.Native.Nat.{ℕ, ◌/◌, ◌≤◌, ◌<◌, min}
use native.Mathlib.Omega.{arith}
use lib.ListN.{length, get_or, take, replicate, length-replicate}
use lib.Seq.{take_all}
use Rattle.std.proofs.lemmas.List.{length-map, take-map}
use Rattle.words.specs.Tab.{over}
use Rattle.words.proofs.Tab.{take-over}
use Rattle.words.specs.Refusals.{Refusal, Check}
use Rattle.std.specs.Prelude.{Result, Ok, Err}
use Rattle.packing.specs.Packed.{unpacked, packed, unpacked_into, packed_into}
use Rattle.packing.proofs.Packed.{repacked}
use Rattle.meaning.specs.Net.{Net}
use Rattle.closure.specs.Runs.{RunIs}
use Rattle.nevelknop.specs.Calls.{words_of, cell_words, run_number, RunBytes}
use Rattle.nevelknop.proofs.Orders.{length-unpacked}

-- what is unpacked into an array t, up to the last word that fits
front : (k : ℕ) (s t u : List ℕ) (n : ℕ) → u ≡ unpacked_into k s t → n ≡ min (length s / k) (length t) → take n u ≡ unpacked k s n
front k s t u n e h = rw (e, ← h) (take-over (unpacked k s n) t n (length-unpacked k s n))

-- the same of words whose numbers are `values`
module _ {W : Type 0} (value : W → ℕ) (values : List W → List ℕ) (each : (l : List W) → values l ≡ map value l) where
  pub front_words : (k : ℕ) (s : List ℕ) (t u : List W) (n : ℕ) → values u ≡ unpacked_into k s (values t) → n ≡ min (length s / k) (length t)
      → values (take n u) ≡ unpacked k s (min (length s / k) (length t))
  front_words k s t u n e h =
      let m : n ≡ min (length s / k) (length (values t)) = rw (each, length-map) h in
      each (take n u) ∙ sym (take-map value n u) ∙ rw (← each u, ← h) (front k s (values t) (values u) n e m)

-- the words of a whole list, in an array of m words
pub lists_front : (k : ℕ) (s : List ℕ) (m : ℕ) → length s / k ≤ m → unpacked k s (min (length s / k) m) ≡ words_of k s
lists_front k s m h = let e : min (length s / k) m ≡ length s / k = omega arith in rw e

-- the words of a table or of lengths, in an array of 2,048
pub cells_front : (k : ℕ) (s u : List ℕ) → u ≡ unpacked k s (min (length s / k) (length {A = ℕ} (replicate 2048 0))) → u ≡ cell_words k s
cells_front k s u e = e ∙ rw length-replicate

-- all words of a list that fits are packed
pub packs : (k : ℕ) (ws s : List ℕ) → length ws ≤ length s / k → packed_into k ws s ≡ over (packed k ws) s
packs k ws s h =
    let e : min (length ws) (length s / k) ≡ length ws = omega arith in
    rw (e, take_all (length ws) ws (omega arith))

-- the words of a table or of lengths, which were as many
pub packs_cells : (k : ℕ) (ws s : List ℕ) → length ws ≡ length (cell_words k s) → packed_into k ws s ≡ over (packed k ws) s
packs_cells k ws s e = packs k ws s (omega (arith, length-unpacked k s (min (length s / k) 2048)))

abbrev pub Bytes : List ℕ → Type 0
Bytes s = (i : ℕ) → get_or s i 0 < 256

-- the run on the words of a table and lengths, packed again: where it is refused its words are the same, and so are the bytes
pub run_bytes :
    (own : Check) {g : Net} {table lengths table' lengths' : List ℕ} (t' ls' : List ℕ) (a : Result ℕ Refusal) →
    Bytes table →
    Bytes lengths →
    RunIs own g (cell_words 8 table) (cell_words 4 lengths) t' ls' a →
    table' ≡ over (packed 8 t') table →
    lengths' ≡ over (packed 4 ls') lengths →
    RunBytes own g table lengths table' lengths' (run_number a)
run_bytes (Ok _) t' ls' a bt bl i et el = RunBytes.ran a t' ls' refl i refl et el
run_bytes (Err r) {table = table} {lengths = lengths} t' ls' a bt bl i et el =
    RunBytes.refused r refl (ap run_number i.0)
    (et ∙ rw i.1.table (repacked 8 table (min (length table / 8) 2048) bt (omega arith)))
    (el ∙ rw i.1.lengths (repacked 4 lengths (min (length lengths / 4) 2048) bl (omega arith)))
