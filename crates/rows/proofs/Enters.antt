-- Label rules entered edge by edge: what `enter` leaves. Assumes nothing.
use mathlib.Core.Path.{◌≡◌, refl, sym, ◌∙◌}
use mathlib.Core.List.{List}
use mathlib.Core.Bool.{Bool, true, false}
use mathlib.Core.Logic.{◌≢◌}
use Prim.Native.Nat.{ℕ, ◌+◌, ◌*◌, ◌/◌, ◌%◌, ◌^◌, ◌≤◌, ◌<◌}
use native.Mathlib.Omega.{arith}
use borrow.Author.Count.{below_more}
use borrow.Author.Tests.{eqb-true, eqb-false, eq-eqb, ne_eqb}
use lib.ListN.{length, get_or, set}
use lib.Dec.{eqb}
use lib.Bits.{bit_or}
use lib.Pow.{pow-lt}
use lib.Arith.{digits_lt}
use Rattle.meaning.specs.Net.{Edge, LabelRule, Sane, word}
use Rattle.meaning.specs.Records.{rule_at}
use Rattle.meaning.specs.declared.Rule.TheVariants.{Label, Pair}
use Rattle.meaning.proofs.Rules.{label_words, pair_words}
use Rattle.meaning.proofs.Bits.{bit_power}
use Rattle.numbers.specs.declared.Numbers.{Numbers}
use Rattle.lists.specs.Lists.{net}
use Rattle.rows.specs.Rounds.{united, none, more, entered, EdgeFits, LeafBit, LeafBits, AllLeafBits, Entered}
use Rattle.rows.proofs.United.{united_keeps, united_adds}
use Rattle.rows.proofs.Grows.{grown_length, grown_then, grown_keeps}

module _ (edges : List ℕ) (e base label : ℕ) (rs : List ℕ) where
  pub entered_not : word edges e 1 ≢ label → entered edges e base label rs ≡ rs
  unfolding entered
  entered_not n = rw (ne_eqb _ _ n) refl

  entered_here : word edges e 1 ≡ label → entered edges e base label rs ≡ united rs (base + word edges e 0) (2 ^ word edges e 2)
  unfolding entered
  entered_here h = rw (eq-eqb _ _ h) refl

  -- as the machine does it: a shift, an or, a store
  pub entered_set : (i j : ℕ) → word edges e 1 ≡ label → i ≡ word edges e 0 → j ≡ word edges e 2 → j < 64
      → set rs (base + i) (bit_or (get_or rs (base + i) 0) (1 * 2 ^ j % 2 ^ 64)) ≡ entered edges e base label rs
  unfolding united
  entered_set i j h ei ej low =
      let shifted : 1 * 2 ^ j % 2 ^ 64 ≡ 2 ^ j = omega (arith, pow-lt low) in
      rw (shifted, ei, ej) (sym (entered_here h))

pub edge_there : (numbers : Numbers) {rules edges : List ℕ} {r A x e : ℕ} (rs : List ℕ) → Sane (net numbers rules edges)
    → numbers.nonterminals * numbers.nodes ≤ length rs → LabelRule rules r A x → e < length edges / 3
    → EdgeFits edges e (A * numbers.nodes) rs
edge_there numbers {edges} {r} {A} {x} {e} rs ok long l h =
    let d = ok.ends e (word edges e 0) (word edges e 1) (word edges e 2) (record { inside = h; from = refl; label = refl; to = refl }) in
    record { edge = h; row = omega (arith, digits_lt (ok.leaves r A x l).head d.from); to = omega (arith, d.to, ok.nodes) }

-- a label rule, as code reads it
pub label_rule : {rules : List ℕ} {r A x : ℕ} → Label A x ≡ rule_at rules r → r < length rules / 3 → LabelRule rules r A x
label_rule e h = let w = label_words e in record { inside = h; head = w.head; label = w.label; mark = eqb-true _ _ w.mark }

module _ (n : ℕ) (rules edges : List ℕ) (r : ℕ) where
  -- the edges below e
  abbrev pub EdgesBelow : ℕ → List ℕ → Type 0
  EdgesBelow e rs = (f : ℕ) → f < e → LeafBit n rules edges r f rs

  -- the rules below r
  abbrev pub RulesBelow : List ℕ → Type 0
  RulesBelow rs = (s : ℕ) → s < r → LeafBits n rules edges s rs

  pub enter_none : {rs : List ℕ} {A B C : ℕ} → Pair A B C ≡ rule_at rules r → Entered n rules edges (LeafBits n rules edges r) rs rs
  enter_none m = let w = pair_words m in record { grown = none; leaves = λ e A x i j l d. absurd (eqb-false _ _ w.pair l.mark) }

  -- one edge more
  pub edge_more : {A x e : ℕ} {rs rs' : List ℕ} → LabelRule rules r A x → EdgeFits edges e (A * n) rs'
      → Entered n rules edges (EdgesBelow e) rs rs' → Entered n rules edges (EdgesBelow (e + 1)) rs (entered edges e (A * n) x rs')
  edge_more {A} {x} {e} {rs} {rs'} l fits y = go (eqb (word edges e 1) x) refl
    where
      i : ℕ
      i = word edges e 0

      j : ℕ
      j = word edges e 2

      go : (b : Bool) → eqb (word edges e 1) x ≡ b → Entered n rules edges (EdgesBelow (e + 1)) rs (entered edges e (A * n) x rs')
      go true t =
          let d : Edge edges e i x j = record { inside = fits.edge; from = refl; label = eqb-true _ _ t; to = refl } in
          rw (entered_here edges e (A * n) x rs' (eqb-true _ _ t)) (record {
            grown = more _ _ y.grown (record { r = r; e = e; A = A; x = x; i = i; j = j; rule = l; edge = d; row = refl; is = refl });
            leaves = below_more _ e (λ f k B z a b p q. united_keeps rs' (A * n + i) (2 ^ j) (B * n + a) b (y.leaves f k B z a b p q))
                (λ B z a b p q. rw (sym p.head ∙ l.head, sym q.from, sym q.to) (united_adds rs' (A * n + i) (2 ^ j) fits.row j (bit_power j)));
          })
      go false t =
          rw (entered_not edges e (A * n) x rs' (eqb-false _ _ t)) (record {
            grown = y.grown;
            leaves = below_more _ e y.leaves (λ B z a b p q. absurd (eqb-false _ _ t (q.label ∙ sym p.label ∙ l.label)));
          })

module _ (n : ℕ) (rules edges : List ℕ) where
  pub rules_none : {rs : List ℕ} → Entered n rules edges (RulesBelow n rules edges 0) rs rs
  rules_none = record { grown = none; leaves = λ s h. absurd (omega arith) }

  -- one rule more
  pub rule_more : {rs rs' rs'' : List ℕ} (r : ℕ) → Entered n rules edges (RulesBelow n rules edges r) rs rs' → Entered n rules edges (LeafBits n rules edges r) rs' rs''
      → Entered n rules edges (RulesBelow n rules edges (r + 1)) rs rs''
  rule_more r y z = record {
    grown = grown_then y.grown z.grown;
    leaves = below_more _ r (λ s h e A x i j l d. grown_keeps z.grown (A * n + i) j (y.leaves s h e A x i j l d)) z.leaves;
  }

  -- all of them
  pub rules_all : {rs rs' : List ℕ} {c : ℕ} → length rules / 3 ≤ c → Entered n rules edges (RulesBelow n rules edges c) rs rs' → Entered n rules edges (AllLeafBits n rules edges) rs rs'
  rules_all h y = record { grown = y.grown; leaves = λ r e A x i j l d. y.leaves r (omega (arith, l.inside)) e A x i j l d }

-- what the loop over rules needs
pub ruleset entering_rules = (grown_length, rules_none, rule_more, rules_all)
