-- The start's sequence of writes, on accepted lists, leaves the start's table and no word past the cells moved. Assumes nothing.
use mathlib.Core.Path.{◌≡◌, refl, sym, ap, ◌∙◌}
use mathlib.Core.List.{List}
use mathlib.Core.Logic.{◌⊎◌, inl, inr, ⊎_elim}
use Prim.Native.Nat.{ℕ, zero, suc, ◌/◌, ◌≤◌, ◌<◌, min}
use native.Mathlib.Nat.{eq-or-lt_of_le, le_of_suc-le-suc}
use native.Mathlib.Omega.{arith}
use native.Mathlib.Decide.{ℕ_discrete, dec_le}
use lib.ListN.{length, get_or, drop, length-set}
use lib.Seq.{get_or-set_same, get_or-set_other, drop-set-lt}
use lib.Dec.{eqb}
use borrow.Author.Tests.{eqb-true, eqb-false}
use borrow.Table.Steps.{cases}
use Rattle.std.specs.Prelude.{Err}
use Rattle.words.specs.Refusals.{Refusal, Check, Good}
use Rattle.words.proofs.Tab.{length-fill, get_or-fill, drop-fill}
use Rattle.key.specs.Keys.{EMPTY, key}
use Rattle.meaning.specs.Net.{Net, Edge, LabelRule, word}
use Rattle.meaning.specs.Table.{cell, at, cells, Each, LeafKey}
use Rattle.meaning.proofs.Cells.{cell_in, cell_same}
use Rattle.numbers.specs.declared.Numbers.{Numbers}
use Rattle.lists.specs.Lists.{net}
use Rattle.lists.proofs.Right.{RightLists, sane}
use Rattle.start.specs.Entering.{entered_in, cleared, leaf_in, edges_in, rule_in, rules_in, begun}
use Rattle.start.specs.Calls.{start_check, Started, StartCall}
use Rattle.start.proofs.Entered.{cleared_all}
use Rattle.start.proofs.Order.{start_good}

-- the leaf of rule r' and edge e' has been entered: all edges of the rules before r have, and of rule r those before e
data Passed (r e r' e' : ℕ) : Type 0 where
  earlier : r' < r → Passed r e r' e'
  same : r' ≡ r → e' < e → Passed r e r' e'

-- a cell then: empty or a leaf's key, and at most each key that has been entered
record CellThen (g : Net) (r e A i j v : ℕ) : Type 0 where
  real : (v ≡ EMPTY) ⊎ LeafKey g A i j v
  least : (κ : ℕ) (y : LeafKey g A i j κ) → Passed r e y.r y.e → v ≤ κ

-- the table then, from t₀
record Then (g : Net) (t₀ : List ℕ) (r e : ℕ) (t : List ℕ) : Type 0 where
  long : cells g ≤ length t
  cell : Each g (λ A i j. CellThen g r e A i j (at g.nodes t A i j))
  kept : drop (cells g) t ≡ drop (cells g) t₀

next : (r e r' e' : ℕ) → Passed r (suc e) r' e' → Passed r e r' e' ⊎ ((r' ≡ r) × (e' ≡ e))
next r e r' e' (earlier l) = inl (earlier l)
next r e r' e' (same q l) = ⊎_elim (λ d. inr (q, d)) (λ k. inl (same q k)) (eq-or-lt_of_le (le_of_suc-le-suc l))

-- a table at one point of the sequence is there at another, if no leaf is passed there that is not passed here
widen : {g : Net} {t₀ t : List ℕ} {r e : ℕ} (r' e' : ℕ)
    → ((A i j κ : ℕ) (y : LeafKey g A i j κ) → Passed r' e' y.r y.e → Passed r e y.r y.e)
    → Then g t₀ r e t → Then g t₀ r' e' t
widen r' e' f th = record {
  long = th.long;
  cell = λ A i j hA hi hj.
      let c = th.cell A i j hA hi hj in
      record { real = c.real; least = λ κ y p. c.least κ y (f A i j κ y p) };
  kept = th.kept;
}

module _ (numbers : Numbers) (rules edges : List ℕ) (ok : RightLists numbers rules edges) (t₀ : List ℕ) where
  abbrev g : Net
  g = net numbers rules edges

  abbrev n : ℕ
  n = numbers.nodes

  module _ (r A x e : ℕ) (rule : LabelRule rules r A x) (he : e < length edges / 3) (t : List ℕ) (th : Then g t₀ r e t) where
    abbrev i : ℕ
    i = word edges e 0

    abbrev j : ℕ
    j = word edges e 2

    -- the one key that is new, if the edge has the rule's label
    record New (A' i' j' κ : ℕ) : Type 0 where
      label : word edges e 1 ≡ x
      head : A' ≡ A
      from : i' ≡ i
      to : j' ≡ j
      is : κ ≡ key 1 i r

    new : (A' i' j' κ : ℕ) (y : LeafKey g A' i' j' κ) → (y.r ≡ r) × (y.e ≡ e) → New A' i' j' κ
    new A' i' j' κ y (q, d) =
        let f : i' ≡ i = sym y.edge.from ∙ ap (λ z. word edges z 0) d in
        record {
          label = sym (ap (λ z. word edges z 1) d) ∙ y.edge.label ∙ sym y.rule.label ∙ ap (λ z. word rules z 1) q ∙ rule.label;
          head = sym y.rule.head ∙ ap (λ z. word rules z 0) q ∙ rule.head;
          from = f;
          to = sym y.edge.to ∙ ap (λ z. word edges z 2) d;
          is = omega (arith, y.is);
        }

    -- an edge with another label enters nothing
    passes : (word edges e 1 ≡ x → ⊥) → Then g t₀ r (suc e) t
    passes other = widen r (suc e) still th
      where
        still : (A' i' j' κ : ℕ) (y : LeafKey g A' i' j' κ) → Passed r (suc e) y.r y.e → Passed r e y.r y.e
        still A' i' j' κ y p =
            ⊎_elim (λ z. z) (λ z. absurd (other (new A' i' j' κ y z).label)) (next r e y.r y.e p)

    module _ (label : word edges e 1 ≡ x) where
      edge : Edge edges e i x j
      edge = record { inside = he; from = refl; label = label; to = refl }

      hA : A < numbers.nonterminals
      hA = ((sane numbers rules edges ok).leaves r A x rule).head

      hi : i < n
      hi = ((sane numbers rules edges ok).ends e i x j edge).from

      hj : j < n
      hj = ((sane numbers rules edges ok).ends e i x j edge).to

      abbrev c : ℕ
      c = cell n A i j

      abbrev κ : ℕ
      κ = key 1 i r

      abbrev t' : List ℕ
      t' = entered_in t c κ

      inside : c < cells g
      inside = cell_in n numbers.nonterminals A i j hA hi hj

      here : get_or t' c 0 ≡ min (get_or t c 0) κ
      unfolding entered_in
      here = get_or-set_same t c _ 0 (omega (arith, inside, th.long))

      leaf : LeafKey g A i j κ
      leaf = record { r = r; x = x; e = e; rule = rule; edge = edge; is = refl }

      enters : Then g t₀ r (suc e) t'
      unfolding entered_in
      enters = record {
        long = rw length-set th.long;
        cell = λ A' i' j' hA' hi' hj'. go A' i' j' hi' hj' (th.cell A' i' j' hA' hi' hj') (ℕ_discrete (cell n A' i' j') c);
        kept = drop-set-lt (cells g) t c _ inside ∙ th.kept;
      }
        where
          go : (A' i' j' : ℕ) → i' < n → j' < n → CellThen g r e A' i' j' (at n t A' i' j') → Dec (cell n A' i' j' ≡ c)
              → CellThen g r (suc e) A' i' j' (at n t' A' i' j')
          go A' i' j' hi' hj' old (yes q) =
              let s = cell_same n A' A i' i j' j hi' hi hj' hj q in
              let v : at n t' A' i' j' ≡ min (at n t A' i' j') κ = rw q here in
              let mine : LeafKey g A' i' j' κ = rw (s.0, s.1, s.2) leaf in
              record {
                real = rw v (by (dec_le (at n t A' i' j') κ) mine old.real);
                least = λ κ' y p.
                    ⊎_elim
                    (λ z. omega (arith, v, old.least κ' y z))
                    (λ z. omega (arith, v, (new A' i' j' κ' y z).is))
                    (next r e y.r y.e p);
              }
            where
              w : ℕ
              w = at n t A' i' j'

              by : Dec (w ≤ κ) → LeafKey g A' i' j' κ → (w ≡ EMPTY) ⊎ LeafKey g A' i' j' w
                  → (min w κ ≡ EMPTY) ⊎ LeafKey g A' i' j' (min w κ)
              by (yes l) mine real = let d : min w κ ≡ w = omega arith in rw d real
              by (no l) mine real = let d : min w κ ≡ κ = omega arith in rw d (inr mine)
          go A' i' j' hi' hj' old (no q) =
              let v : at n t' A' i' j' ≡ at n t A' i' j' = get_or-set_other t c (cell n A' i' j') _ 0 q in
              record {
                real = rw v old.real;
                least = λ κ' y p.
                    ⊎_elim
                    (λ z. rw v (old.least κ' y z))
                    (λ z. let m = new A' i' j' κ' y z in absurd (q (rw (m.head, m.from, m.to))))
                    (next r e y.r y.e p);
              }

    -- one edge more
    leaf_in_lem : Then g t₀ r (suc e) (leaf_in n edges A x r t e)
    unfolding leaf_in
    leaf_in_lem =
        cases (eqb (word edges e 1) x)
        (λ y. rw y (enters (eqb-true _ _ y)))
        (λ f. rw f (passes (eqb-false _ _ f)))

  -- all edges of a label rule
  edges_in_lem : (r A x : ℕ) → LabelRule rules r A x → (t : List ℕ) → Then g t₀ r 0 t → (e : ℕ) → e ≤ length edges / 3
      → Then g t₀ r e (edges_in n edges A x r t e)
  unfolding edges_in
  edges_in_lem r A x rule t th zero h = th
  edges_in_lem r A x rule t th (suc e) h =
      leaf_in_lem r A x e rule h (edges_in n edges A x r t e) (edges_in_lem r A x rule t th e (omega arith))

  -- one rule more
  rule_in_lem : (r : ℕ) → r < length rules / 3 → (t : List ℕ) → Then g t₀ r 0 t → Then g t₀ (suc r) 0 (rule_in n rules edges t r)
  unfolding rule_in
  rule_in_lem r hr t th =
      cases (eqb (word rules r 2) 65535)
      (λ y.
      let label : LabelRule rules r (word rules r 0) (word rules r 1) =
      record { inside = hr; head = refl; label = refl; mark = eqb-true _ _ y } in
      rw y (widen (suc r) 0 every (edges_in_lem r _ _ label t th (length edges / 3) (omega arith))))
      (λ f. rw f (widen (suc r) 0 (λ A i' j' κ' y. others (λ q. absurd (eqb-false _ _ f (sym (ap (λ z. word rules z 2) q) ∙ y.rule.mark)))) th))
    where
      -- of a label rule all edges are passed, and of a pair rule there is no leaf
      others : {e r' e' : ℕ} → (r' ≡ r → Passed r e r' e') → Passed (suc r) 0 r' e' → Passed r e r' e'
      others f (earlier l) = ⊎_elim f earlier (eq-or-lt_of_le (le_of_suc-le-suc l))
      others f (same q l) = absurd (omega arith)

      every : (A i' j' κ' : ℕ) (y : LeafKey g A i' j' κ') → Passed (suc r) 0 y.r y.e → Passed r (length edges / 3) y.r y.e
      every A i' j' κ' y = others (λ q. same q y.edge.inside)

  rules_in_lem : (t : List ℕ) → Then g t₀ 0 0 t → (r : ℕ) → r ≤ length rules / 3 → Then g t₀ r 0 (rules_in n rules edges t r)
  unfolding rules_in
  rules_in_lem t th zero h = th
  rules_in_lem t th (suc r) h = rule_in_lem r h (rules_in n rules edges t r) (rules_in_lem t th r (omega arith))

  module _ (room : cells g ≤ length t₀) where
    -- with every cell emptied, no leaf is passed
    emptied : Then g t₀ 0 0 (cleared (cells g) t₀)
    emptied =
        rw (cleared_all (cells g) t₀ room)
        (record {
          long = omega (arith, length-fill (cells g) EMPTY t₀ room);
          cell = λ A i j hA hi hj. record {
            real = inl (get_or-fill (cells g) EMPTY t₀ (cell n A i j) (cell_in n numbers.nonterminals A i j hA hi hj));
            least = λ κ y p. absurd (none p);
          };
          kept = drop-fill (cells g) EMPTY t₀;
        })
      where
        none : {r e : ℕ} → Passed 0 0 r e → ⊥
        none (earlier l) = omega arith
        none (same q l) = omega arith

    pub filled : Started g t₀ (rules_in n rules edges (cleared (cells g) t₀) (length rules / 3))
    filled =
        let th = rules_in_lem (cleared (cells g) t₀) emptied (length rules / 3) (omega arith) in
        record {
          start = record {
            long = th.long;
            cell = λ A i j hA hi hj.
                let c = th.cell A i j hA hi hj in
                record { real = c.real; least = λ κ y. c.least κ y (earlier y.rule.inside) };
          };
          kept = th.kept;
        }

module _ (numbers : Numbers) (rules edges t : List ℕ) where
  -- a refused start
  pub start_refused : {c : Check} (r : Refusal) → c ≡ Err r → start_check numbers rules edges (length t) ≡ Err r → StartCall numbers rules edges t c t
  start_refused r e s = record { answer = e ∙ sym s; leaves = rw e refl }

  -- an accepted one
  pub start_done : {u : List ℕ} → u ≡ begun numbers.nodes numbers.nonterminals rules edges t (length rules / 3)
      → start_check numbers rules edges (length t) ≡ Good → StartCall numbers rules edges t Good u
  start_done e s =
      let r = (start_good numbers rules edges (length t)).0 s in
      record { answer = sym s; leaves = rw e (filled numbers rules edges r.lists t r.room) }
