-- `lists::right_rule` meets its contract. Assumes nothing.
use borrow.Author.Tests.{lt-ltb, le-ltb}
use Rattle.meaning.proofs.Rules.{label_words, pair_words}
use Rattle.lists.specs.Lists.{right_rule}
use Rattle.lists.proofs.right_rule.Goals as goal

pub returns-then-m-a : goal.returns-then-m-a
unfolding right_rule
returns-then-m-a c = rw (le-ltb _ _ c.if-m-a.true)

pub returns-in-Label : goal.returns-in-Label
unfolding right_rule
returns-in-Label c =
    let w = label_words c.in-Label.ensures in
    rw (w.label, w.mark, lt-ltb _ _ c.if-m-a.false) c.between.ensures

pub returns-then-left-m : goal.returns-then-left-m
unfolding right_rule
returns-then-left-m c =
    let w = pair_words c.in-Pair.ensures in
    rw (w.left, w.pair, w.right, lt-ltb _ _ c.if-m-a.false, lt-ltb _ _ c.if-left-m.true)

pub returns-else-left-m : goal.returns-else-left-m
unfolding right_rule
returns-else-left-m c =
    let w = pair_words c.in-Pair.ensures in
    rw (w.left, w.pair, lt-ltb _ _ c.if-m-a.false, le-ltb _ _ c.if-left-m.false)
