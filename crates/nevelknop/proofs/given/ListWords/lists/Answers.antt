-- `nevelknop::given::ListWords::lists` meets its contract: the counts are right, and the words decide the rest. Assumes nothing.
use mathlib.Core.Path.{◌≡◌, ◌∙◌}
use native.Mathlib.Omega.{arith}
use lib.ListN.{length}
use Rattle.nevelknop.specs.Calls.{words_of}
use Rattle.nevelknop.proofs.Orders.{counts_good, counted}
use Rattle.nevelknop.proofs.Lent.{lists_front}
use Rattle.nevelknop.proofs.given.ListWords.lists.Goals as goal

pub returns : goal.returns
returns c =
    let a = c.args in
    let many : length a.self.now.rules ≡ 768 = omega arith in
    let more : length a.self.now.edges ≡ 12288 = omega arith in
    let good = c.requires in
    let few = counted _ _ _ good in
    let er : c.unpack_front.result.now ≡ words_of 2 a.given.rules.now = c.unpack_front.ensures ∙ rw many (lists_front 2 a.given.rules.now 768 few.few_rules) in
    let ee : c.unpack_front-2.result.now ≡ words_of 2 a.given.edges.now = c.unpack_front-2.ensures ∙ rw more (lists_front 2 a.given.edges.now 12288 few.few_edges) in
    rw (counts_good a.given.numbers a.given.rules.now a.given.edges.now good) (rw (er, ee) at c.small_lists.ensures)
