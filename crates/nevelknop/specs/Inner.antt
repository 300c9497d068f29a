-- What the inner functions promise. Assumes nothing.
use Rattle.std.specs.Prelude.{◌≡◌, List, ◌++◌, ℕ, ◌*◌, ◌/◌, ◌^◌, ◌<◌, length, take, drop, Result, Ok, Err}
use Rattle.words.specs.Refusals.{Refusal, ◌and_then◌, Check, Good}
use Rattle.words.specs.Tab.{over}
use Rattle.packing.specs.Packed.{packed, packed_into}
use Rattle.meaning.specs.Net.{Net}
use Rattle.meaning.specs.Lengths.{Recorded}
use Rattle.numbers.specs.declared.Numbers.{Numbers}
use Rattle.numbers.specs.Numbers.{limits_check, large_check}
use Rattle.lists.specs.Lists.{net, lists_check}
use Rattle.closure.specs.Runs.{run_check, RunIs}
use Rattle.witness.specs.Answers.{part, witness_check}
use Rattle.witness.specs.declared.table.Held.{Held}
use Rattle.nevelknop.specs.Calls.{words_of, cell_words, bytes_check, call_check, run_number, WitnessBytes}

-- what lists of so many bytes are refused for before a word of them is read
abbrev pub counts_check : Numbers → ℕ → ℕ → Check
counts_check numbers rules edges = bytes_check rules edges and_then limits_check numbers (rules / 2) (edges / 2)

-- what lists of words are refused for before the call's own checks
abbrev pub ready_check : Numbers → List ℕ → List ℕ → Check
ready_check numbers rules edges = lists_check numbers rules edges and_then large_check numbers (length edges / 3)

-- the same of lists of bytes
abbrev pub given_check : Numbers → List ℕ → List ℕ → Check
given_check numbers rules edges = call_check (bytes_check (length rules) (length edges)) numbers (words_of 2 rules) (words_of 2 edges) Good

-- a run on the words of a table and lengths, whose words at its exit are in the bytes
pub record RunBack (numbers : Numbers) (rules edges table lengths table' lengths' : List ℕ) (a : Result ℕ Refusal) : Type 0 where
  pub t' : List ℕ
  pub ls' : List ℕ
  pub run : RunIs (run_check numbers rules edges (length (cell_words 8 table)) (length (cell_words 4 lengths))) (net numbers rules edges)
      (cell_words 8 table) (cell_words 4 lengths) t' ls' a
  pub packed_table : table' ≡ over (packed 8 t') table
  pub packed_lengths : lengths' ≡ over (packed 4 ls') lengths

-- the graph and grammar of a table as a witness holds it
abbrev pub net_of_path : Held → Net
net_of_path held = net held.lists.numbers held.lists.rules.now held.lists.edges.now

-- a window of at most 16,384 edges of the recorded path, behind the `from` edges before it
pub record OneWindow (g : Net) (t : List ℕ) (A i j from : ℕ) (path path' : List ℕ) : Type 0 where
  pub bytes : (p : List ℕ) → Recorded g t A i j p
      → path' ≡ take (2 * from) path ++ packed_into 2 (part from 16384 p) (drop (2 * from) path)

-- a refusal's place is below 2^32
abbrev pub PlaceFits : Result ℕ Refusal → Type 0
PlaceFits (Ok d) = Unit {0}
PlaceFits (Err r) = r.place < 2 ^ 32

-- an answer that can be told as one number, and keeps the promise of a call
pub record Told (promise : ℕ → Type 0) (a : Result ℕ Refusal) : Type 0 where
  pub fits : PlaceFits a
  pub kept : promise (run_number a)

-- a witness on words, which writes the path of cell (a, i, j) into bytes
abbrev pub PathTold : Numbers → List ℕ → List ℕ → List ℕ → List ℕ → ℕ → ℕ → ℕ → List ℕ → List ℕ → Result ℕ Refusal → Type 0
PathTold numbers rules edges t ls a i j path path' =
    Told (WitnessBytes (witness_check numbers rules edges a i j t ls (length path / 2)) (net numbers rules edges) t a i j path path')
