-- The C calls: what they answer, and every byte that they leave, for every input. Assumes nothing.
use Rattle.std.specs.Prelude.{◌≡◌, List, ℕ, ◌+◌, ◌*◌, ◌/◌, ◌%◌, ◌^◌, min, length, eqb, Result, Ok, Err}
use Rattle.words.specs.Refusals.{Refusal, must, ◌and_then◌, Check, Good, number_of}
use Rattle.words.specs.Tab.{over}
use Rattle.words.specs.declared.Reason.TheVariants.{WrongCount}
use Rattle.packing.specs.Packed.{unpacked, packed}
use Rattle.meaning.specs.Net.{Net}
use Rattle.meaning.specs.Lengths.{Recorded}
use Rattle.numbers.specs.declared.Numbers.{Numbers}
use Rattle.numbers.specs.Numbers.{large_check}
use Rattle.lists.specs.Lists.{net, lists_check}
use Rattle.closure.specs.Runs.{run_check, RunIs}
use Rattle.witness.specs.Answers.{witness_check}

-- ---- words in bytes

-- the words of a byte list, k bytes to a word, the lowest byte first
abbrev pub words_of : ℕ → List ℕ → List ℕ
words_of k s = unpacked k s (length s / k)

-- the whole words of a table or of lengths; a call that is not too large has no cell past the first 2,048
abbrev pub cell_words : ℕ → List ℕ → List ℕ
cell_words k s = unpacked k s (min (length s / k) 2048)

abbrev pub given_numbers : ℕ → ℕ → ℕ → Numbers
given_numbers nodes nonterminals labels = record { nodes = nodes; nonterminals = nonterminals; labels = labels }

-- ---- refusals

-- refusal 5, WrongCount: a list of bytes is no whole number of records, the rules at place 0, the edges at 1
unfoldable pub bytes_check : ℕ → ℕ → Check
bytes_check rules edges = must (eqb (rules % 6) 0) WrongCount 0 and_then must (eqb (edges % 6) 0) WrongCount 1

-- the order: 5 for the bytes, then 5, 4, 7 and 8 for the words, 13, and last the call's own
unfoldable pub call_check : Check → Numbers → List ℕ → List ℕ → Check → Check
call_check records numbers rules edges own =
    records and_then lists_check numbers rules edges and_then large_check numbers (length edges / 3) and_then own

-- one 64-bit number answers: a refusal's number × 2^32 + its place, or else the run's depth or the path's length
abbrev pub refusal_number : Refusal → ℕ
refusal_number r = (number_of r.reason) * 2 ^ 32 + r.place

abbrev pub run_number : Result ℕ Refusal → ℕ
run_number (Ok d) = d
run_number (Err r) = refusal_number r

-- ---- the calls

-- a run that answers a number and leaves the bytes table' and lengths': a refused one changes no byte;
-- another is the run on the words, whose words at its exit are in the bytes, and the bytes past those keep their values
pub data RunBytes (check : Check) (g : Net) (table lengths table' lengths' : List ℕ) (answer : ℕ) : Type 0 where
  refused : (r : Refusal) → check ≡ Err r → answer ≡ refusal_number r → table' ≡ table → lengths' ≡ lengths
      → RunBytes check g table lengths table' lengths' answer
  ran : (a : Result ℕ Refusal) (t' ls' : List ℕ) → check ≡ Good
      → RunIs Good g (cell_words 8 table) (cell_words 4 lengths) t' ls' a → answer ≡ run_number a
      → table' ≡ over (packed 8 t') table → lengths' ≡ over (packed 4 ls') lengths
      → RunBytes check g table lengths table' lengths' answer

-- a witness that answers a number and leaves the bytes path': a refused one changes no byte;
-- another answers how many edges it wrote, and they are the recorded path
pub data WitnessBytes (check : Check) (g : Net) (t : List ℕ) (A i j : ℕ) (path path' : List ℕ) (answer : ℕ) : Type 0 where
  refused : (r : Refusal) → check ≡ Err r → answer ≡ refusal_number r → path' ≡ path
      → WitnessBytes check g t A i j path path' answer
  wrote : (p : List ℕ) → check ≡ Good → Recorded g t A i j p → answer ≡ length p → path' ≡ over (packed 2 p) path
      → WitnessBytes check g t A i j path path' answer

-- the two calls on lists of words, whose bytes passed the check `records`
abbrev pub RunOn : Check → Numbers → List ℕ → List ℕ → List ℕ → List ℕ → List ℕ → List ℕ → ℕ → Type 0
RunOn records numbers rules edges table lengths =
    RunBytes
    (call_check records numbers rules edges (run_check numbers rules edges (length (cell_words 8 table)) (length (cell_words 4 lengths))))
    (net numbers rules edges) table lengths

abbrev pub WitnessOn : Check → Numbers → List ℕ → List ℕ → ℕ → ℕ → ℕ → List ℕ → List ℕ → List ℕ → List ℕ → ℕ → Type 0
WitnessOn records numbers rules edges a i j table lengths path =
    WitnessBytes
    (call_check records numbers rules edges
    (witness_check numbers rules edges a i j (cell_words 8 table) (cell_words 4 lengths) (length path / 2)))
    (net numbers rules edges) (cell_words 8 table) a i j path

-- and as C makes them, on lists of bytes
abbrev pub RunCall : Numbers → List ℕ → List ℕ → List ℕ → List ℕ → List ℕ → List ℕ → ℕ → Type 0
RunCall numbers rules edges = RunOn (bytes_check (length rules) (length edges)) numbers (words_of 2 rules) (words_of 2 edges)

abbrev pub WitnessCall : Numbers → List ℕ → List ℕ → ℕ → ℕ → ℕ → List ℕ → List ℕ → List ℕ → List ℕ → ℕ → Type 0
WitnessCall numbers rules edges = WitnessOn (bytes_check (length rules) (length edges)) numbers (words_of 2 rules) (words_of 2 edges)
