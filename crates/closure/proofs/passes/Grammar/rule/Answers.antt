-- `closure::passes::Grammar::rule` meets its contract. Assumes nothing.
use mathlib.Core.Path.{refl, sym}
use borrow.Author.Tests.{eqb-true, eqb-false}
use Rattle.meaning.specs.Net.{word}
use Rattle.closure.specs.Sizes.{RuleInside}
use Rattle.meaning.proofs.Rules.{PairWords, label_words, pair_words}
use Rattle.closure.proofs.Swept.{swept_label, swept_rule, rule_inside}
use Rattle.closure.proofs.passes.Grammar.rule.Goals.{In-Pair}
use Rattle.closure.proofs.passes.Grammar.rule.Goals as goal

-- the words of a pair rule, of nonterminals that there are
words : (c : In-Pair) →
    let rules = c.args.self.now.rules.now in
    PairWords (word rules c.args.r 0) (word rules c.args.r 1) (word rules c.args.r 2) c.in-Pair.head c.in-Pair.left c.in-Pair.right
words c = pair_words c.in-Pair.ensures

inside : (c : In-Pair) → RuleInside c.args.self.now.size c.in-Pair.head c.in-Pair.left c.in-Pair.right
inside c = let s = c.args.self.now in rule_inside s.size s.rules.now c.args.r _ _ _ s.inside c.requires.r_in_bounds (words c)

pub invariant_of-pair : goal.invariant_of-pair
invariant_of-pair c = record { inside = inside (goal.at.invariant_of-pair c).In-Pair }

pub returns-in-Label : goal.returns-in-Label
returns-in-Label c =
    let s = c.args.self.now in
    swept_label s.size s.rules.now c.args.r c.args.table.now c.args.table.now c.requires.low (eqb-true _ _ (label_words c.in-Label.ensures).mark)

pub returns-in-Pair : goal.returns-in-Pair
returns-in-Pair c =
    let s = c.args.self.now in
    let v = c.in-Pair in
    let here = (goal.at.returns-in-Pair c).In-Pair in
    let w = words here in
    swept_rule s.size s.rules.now c.args.r c.args.table.now c.steps.new.table
    (record { size = s.size; number = c.args.r; head = v.head; left = v.left; right = v.right; inside = inside here }) c.steps.result refl
    (sym w.head) (sym w.left) (sym w.right) (eqb-false _ _ w.pair) c.steps.ensures
