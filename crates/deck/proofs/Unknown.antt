-- UnknownKind given exactly when. Assumes nothing.
use mathlib.Core.List.{List}
use mathlib.Core.Bool.{Bool, true, false}
use mathlib.Core.Path.{◌≡◌, sym, ◌∙◌}
use mathlib.Core.Logic.{◌≢◌, ◌↔◌}
use Prim.Native.Nat.{ℕ, ◌<◌}
use native.Mathlib.Nat.{le_antisymm}
use native.Mathlib.Omega.{arith}
use lib.Dec.{eqb, ltb}
use borrow.Author.Tests.{ltb-true, ltb-false, lt-ltb, le-ltb, eqb-true, eqb-false, eq-eqb, ne_eqb}
use Rattle.words.specs.Refusals.{refused, ◌and_then◌, scan, Check, Good}
use Rattle.words.specs.First.{first}
use Rattle.words.proofs.First.{first_le, first_here, first_end, first_lowest}
use Rattle.words.proofs.Refusals.{both, and_assoc}
use Rattle.words.specs.declared.Reason.TheVariants.{UnknownKind}
use Rattle.deck.specs.Blocks.{blocks, word_at, record_at}
use Rattle.deck.specs.Reads.{size_check, frame_check, header_check, fill_check, totals_check, entry_check, rule_record_check, entry_of, right_nodes, right_kind, read_check}
use Rattle.deck.proofs.Given.{up_to, and_unit, given_9}

-- the deck is right up to its edges
unfoldable pub up_to_edges : List ℕ → Check
up_to_edges d =
    size_check d
    and_then scan (frame_check d) (blocks d)
    and_then header_check d
    and_then scan (fill_check d) (blocks d)
    and_then totals_check d
    and_then scan (entry_check d) (word_at d 0 3)
    and_then scan (rule_record_check d) (word_at d 0 4)

-- the nodes of edge e are in range
pub record NodesIn (d : List ℕ) (e : ℕ) : Type 0 where
  pub from : record_at d 4 e 0 < word_at d 0 0
  pub to : record_at d 4 e 2 < word_at d 0 0

-- some map entry has the kind of edge e
pub record InMap (d : List ℕ) (e : ℕ) : Type 0 where
  pub entry : ℕ
  pub below : entry < word_at d 0 3
  pub is : record_at d 2 entry 0 ≡ record_at d 4 e 1

-- e is the lowest edge that is not right, its nodes are right, and its kind is in no map entry
pub record UnmappedEdge (d : List ℕ) (e : ℕ) : Type 0 where
  pub before : up_to_edges d ≡ Good
  pub edge : e < word_at d 0 5
  pub rest : (i : ℕ) → i < e → NodesIn d i × InMap d i
  pub nodes : NodesIn d e
  pub unknown : (m : ℕ) → m < word_at d 0 3 → record_at d 2 m 0 ≢ record_at d 4 e 1

module _ (d : List ℕ) where
  up_to_lem : up_to d 8 ≡ up_to_edges d
  unfolding up_to_edges scan ◌and_then◌
  up_to_lem = simp (and_assoc, and_unit)

  -- ---- one edge

  nodes_in : (e : ℕ) → (right_nodes d e ≡ true) ↔ NodesIn d e
  nodes_in e =
      let b = both (ltb (record_at d 4 e 0) (word_at d 0 0)) (ltb (record_at d 4 e 2) (word_at d 0 0)) in (
        λ t. let g = b.0 t in record { from = ltb-true _ _ g.0; to = ltb-true _ _ g.1 },
        λ g. b.1 (lt-ltb _ _ g.from, lt-ltb _ _ g.to),
      )

  in_map : (e : ℕ) → (right_kind d e ≡ true) ↔ InMap d e
  unfolding entry_of
  in_map e =
      let p : ℕ → Bool = λ m. eqb (record_at d 2 m 0) (record_at d 4 e 1) in
      let n = word_at d 0 3 in (
        λ t.
            let h = ltb-true (first p n) n t in
            record { entry = first p n; below = h; is = eqb-true _ _ (first_here p n h) },
        λ g. lt-ltb (first p n) n (omega (arith, first_lowest p n g.entry (eq-eqb _ _ g.is), g.below)),
      )

  not_in_map : (e : ℕ) → (right_kind d e ≡ false) ↔ ((m : ℕ) → m < word_at d 0 3 → record_at d 2 m 0 ≢ record_at d 4 e 1)
  unfolding entry_of
  not_in_map e =
      let p : ℕ → Bool = λ m. eqb (record_at d 2 m 0) (record_at d 4 e 1) in
      let n = word_at d 0 3 in (
        λ f m h. eqb-false _ _ ((first_end p n).0 (le_antisymm (first_le p n) (ltb-false (first p n) n f)) m h),
        λ no. le-ltb (first p n) n (omega (arith, (first_end p n).1 (λ m h. ne_eqb _ _ (no m h)))),
      )

pub unknown_kind : (d : List ℕ) (rules edges e : ℕ) → (read_check d rules edges ≡ refused UnknownKind e) ↔ UnmappedEdge d e
unknown_kind d rules edges e = (there, back)
  where
    there : read_check d rules edges ≡ refused UnknownKind e → UnmappedEdge d e
    there q =
        let g = (given_9 d rules edges e).0 q in
        let f = g.1 in
        record {
          before = sym (up_to_lem d) ∙ g.0;
          edge = f.below;
          rest = λ i h. let r = f.rest i h in ((nodes_in d i).0 r.0, (in_map d i).0 r.1);
          nodes = (nodes_in d e).0 f.fault.0;
          unknown = (not_in_map d e).0 f.fault.1;
        }

    back : UnmappedEdge d e → read_check d rules edges ≡ refused UnknownKind e
    back u =
        (given_9 d rules edges e).1 (
          up_to_lem d ∙ u.before,
          record {
            below = u.edge;
            fault = ((nodes_in d e).1 u.nodes, (not_in_map d e).1 u.unknown);
            rest = λ i h. let r = u.rest i h in ((nodes_in d i).1 r.0, (in_map d i).1 r.1);
          },
        )
