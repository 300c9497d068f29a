-- What accepted lists are good for: numbers within their limits, each rule and edge in range, and a net that the theorems take.
-- Assumes nothing.
use mathlib.Core.Path.{◌≡◌, sym, ◌∙◌}
use mathlib.Core.List.{List}
use mathlib.Core.Logic.{◌≢◌, ◌↔◌}
use mathlib.Core.Bool.{true, ◌&&◌}
use Prim.Native.Nat.{ℕ, ◌/◌, ◌%◌, ◌≤◌, ◌<◌}
use native.Mathlib.Omega.{arith}
use lib.ListN.{length}
use lib.Dec.{eqb, ltb}
use borrow.Author.Tests.{ltb-true, eqb-true, eqb-false, lt-ltb, eq-eqb, ne_eqb}
use borrow.Table.Steps.{cases}
use Rattle.words.proofs.Refusals.{both, must_good, and_good, scan_good}
use Rattle.words.specs.Refusals.{Good}
use Rattle.meaning.specs.Net.{word, Sane}
use Rattle.meaning.proofs.Cells.{cells_few}
use Rattle.numbers.specs.Numbers.{cells_of, between, in_limits, limits_check}
use Rattle.lists.specs.Lists.{net, right_rule, right_edge, whole_check, rule_check, edge_check, lists_check}
use Rattle.numbers.specs.declared.Numbers.{Numbers}
use Rattle.numbers.proofs.Right.{Between, between_true}

-- ---- tests as facts

-- (a, b, c) is a rule in range
pub record RuleIn (numbers : Numbers) (a b c : ℕ) : Type 0 where
  pub head : a < numbers.nonterminals
  pub pair : c ≢ 65535 → (b < numbers.nonterminals) × (c < numbers.nonterminals)
  pub label : c ≡ 65535 → Between 1 numbers.labels b

pub right_rule_lem : (numbers : Numbers) (a b c : ℕ) → (right_rule numbers a b c ≡ true) ↔ RuleIn numbers a b c
unfolding right_rule
right_rule_lem numbers a b c = (there, back)
  where
    m : ℕ
    m = numbers.nonterminals

    there : right_rule numbers a b c ≡ true → RuleIn numbers a b c
    there e =
        let h = (both (ltb a m) _).0 e in
        record {
          head = ltb-true _ _ h.0;
          pair = λ ne.
              let p = (both (ltb b m) (ltb c m)).0 (rw (ne_eqb c 65535 ne) at h.1) in
              (ltb-true _ _ p.0, ltb-true _ _ p.1);
          label = λ is. (between_true 1 numbers.labels b).0 (rw (eq-eqb c 65535 is) at h.1);
        }

    back : RuleIn numbers a b c → right_rule numbers a b c ≡ true
    back i =
        (both (ltb a m) _).1 (
          lt-ltb _ _ i.head,
          cases (eqb c 65535)
              (λ t. rw t ((between_true 1 numbers.labels b).1 (i.label (eqb-true _ _ t))))
              (λ f. let p = i.pair (eqb-false _ _ f) in rw f ((both (ltb b m) (ltb c m)).1 (lt-ltb _ _ p.0, lt-ltb _ _ p.1))),
        )

-- (i, x, j) is an edge in range
pub record EdgeIn (numbers : Numbers) (i x j : ℕ) : Type 0 where
  pub from : i < numbers.nodes
  pub label : Between 1 numbers.labels x
  pub to : j < numbers.nodes

pub right_edge_lem : (numbers : Numbers) (i x j : ℕ) → (right_edge numbers i x j ≡ true) ↔ EdgeIn numbers i x j
unfolding right_edge
right_edge_lem numbers i x j =
    let a = both (ltb i numbers.nodes && between 1 numbers.labels x) (ltb j numbers.nodes) in
    let b = both (ltb i numbers.nodes) (between 1 numbers.labels x) in
    let l = between_true 1 numbers.labels x in (
      λ e.
          let h = a.0 e in
          let f = b.0 h.0 in
          record { from = ltb-true _ _ f.0; label = l.0 f.1; to = ltb-true _ _ h.1 },
      λ h. a.1 (b.1 (lt-ltb _ _ h.from, l.1 h.label), lt-ltb _ _ h.to),
    )

-- ---- accepted lists

pub record RightLists (numbers : Numbers) (rules edges : List ℕ) : Type 0 where
  pub whole_rules : length rules % 3 ≡ 0
  pub whole_edges : length edges % 3 ≡ 0
  pub nodes : Between 1 64 numbers.nodes
  pub nonterminals : Between 1 32 numbers.nonterminals
  pub labels : Between 1 255 numbers.labels
  pub many_rules : length rules / 3 ≤ 256
  pub many_edges : length edges / 3 ≤ 4096
  pub rule : (r : ℕ) → r < length rules / 3 → RuleIn numbers (word rules r 0) (word rules r 1) (word rules r 2)
  pub edge : (e : ℕ) → e < length edges / 3 → EdgeIn numbers (word edges e 0) (word edges e 1) (word edges e 2)

module _ (numbers : Numbers) (rules edges : List ℕ) where
  -- the check is good exactly if the lists are right
  pub accepted : lists_check numbers rules edges ≡ Good → RightLists numbers rules edges
  unfolding lists_check whole_check limits_check rule_check edge_check in_limits
  accepted e =
      let a = (and_good (whole_check (length rules) (length edges)) _).0 e in
      let b = (and_good (limits_check numbers (length rules) (length edges)) _).0 a.1 in
      let c = (and_good _ _).0 b.1 in
      let w = (and_good _ _).0 a.0 in
      let n = (and_good _ _).0 b.0 in
      let m = (and_good _ _).0 n.1 in
      let l = (and_good _ _).0 m.1 in
      let k = (and_good _ _).0 l.1 in
      record {
        whole_rules = eqb-true _ _ ((must_good _ _ _).0 w.0);
        whole_edges = eqb-true _ _ ((must_good _ _ _).0 w.1);
        nodes = (between_true _ _ _).0 ((must_good _ _ _).0 n.0);
        nonterminals = (between_true _ _ _).0 ((must_good _ _ _).0 m.0);
        labels = (between_true _ _ _).0 ((must_good _ _ _).0 l.0);
        many_rules = ((between_true _ _ _).0 ((must_good _ _ _).0 k.0)).high;
        many_edges = ((between_true _ _ _).0 ((must_good _ _ _).0 k.1)).high;
        rule = λ r h. (right_rule_lem numbers _ _ _).0 ((must_good _ _ _).0 ((scan_good _ _).0 c.0 r h));
        edge = λ f h. (right_edge_lem numbers _ _ _).0 ((must_good _ _ _).0 ((scan_good _ _).0 c.1 f h));
      }

  pub accepting : RightLists numbers rules edges → lists_check numbers rules edges ≡ Good
  unfolding lists_check whole_check limits_check rule_check edge_check in_limits
  accepting ok =
      (and_good _ _).1 (
        (and_good _ _).1 ((must_good _ _ _).1 (eq-eqb _ _ ok.whole_rules), (must_good _ _ _).1 (eq-eqb _ _ ok.whole_edges)),
        (and_good _ _).1 (
          (and_good _ _).1 (
            (must_good _ _ _).1 ((between_true _ _ _).1 ok.nodes),
            (and_good _ _).1 (
              (must_good _ _ _).1 ((between_true _ _ _).1 ok.nonterminals),
              (and_good _ _).1 (
                (must_good _ _ _).1 ((between_true _ _ _).1 ok.labels),
                (and_good _ _).1 (
                  (must_good _ _ _).1 ((between_true _ _ _).1 (record { low = omega arith; high = ok.many_rules })),
                  (must_good _ _ _).1 ((between_true _ _ _).1 (record { low = omega arith; high = ok.many_edges })),
                ),
              ),
            ),
          ),
          (and_good _ _).1 (
            (scan_good _ _).1 (λ r h. (must_good _ _ _).1 ((right_rule_lem numbers _ _ _).1 (ok.rule r h))),
            (scan_good _ _).1 (λ e h. (must_good _ _ _).1 ((right_edge_lem numbers _ _ _).1 (ok.edge e h))),
          ),
        ),
      )

  module _ (ok : RightLists numbers rules edges) where
    pub sane : Sane (net numbers rules edges)
    sane = record {
      nodes = ok.nodes.high;
      nonterminals = ok.nonterminals.high;
      rules = ok.many_rules;
      pairs = λ r A B C p.
          let i = ok.rule r p.inside in
          let q = i.pair p.pair in
          record {
            rule = p.inside;
            head = rw p.head at i.head;
            left = rw p.left at q.0;
            right = rw p.right at q.1;
          };
      leaves = λ r A x p. record { rule = p.inside; head = rw p.head at (ok.rule r p.inside).head };
      ends = λ e i x j p.
          let d = ok.edge e p.inside in
          record { from = rw p.from at d.from; to = rw p.to at d.to };
      one_pair = λ r A B C B' C' p q. (sym p.left ∙ q.left, sym p.right ∙ q.right);
      one_label = λ r A x x' p q. sym p.label ∙ q.label;
      apart = λ r A B C x p q. p.pair q.mark;
    }

    pub few_cells : cells_of numbers ≤ 131072
    few_cells = cells_few sane
