-- `meaning::word` meets its contract: each early return is past the list's end. Assumes nothing.
use mathlib.Core.Path.{refl, sym}
use native.Mathlib.Omega.{arith}
use Rattle.meaning.specs.Net.{word}
use Rattle.meaning.proofs.Records.{word_past}
use Rattle.meaning.proofs.word.Goals as goal

pub returns-then-n-r : goal.returns-then-n-r
returns-then-n-r c = sym (word_past _ _ _ (omega arith))

pub returns-then-n-k : goal.returns-then-n-k
returns-then-n-k c = sym (word_past _ _ _ (omega arith))

pub returns-then-n-at : goal.returns-then-n-at
returns-then-n-at c = sym (word_past _ _ _ (omega arith))

pub returns : goal.returns
unfolding word
returns c = refl
