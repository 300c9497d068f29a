-- A walk reads a cell: what its two cases ask of the cell's sides, and what they give of the recorded path. Assumes nothing.
use mathlib.Core.Path.{◌≡◌, refl, sym, ap, ◌∙◌}
use mathlib.Core.List.{List, [], ◌∷◌, ◌++◌}
use Prim.Native.Nat.{ℕ, ◌+◌, ◌-◌, ◌*◌, ◌/◌, ◌≤◌, ◌<◌}
use native.Mathlib.Omega.{arith}
use lib.ListN.{length, take, drop}
use borrow.Author.Tests.{eqb-true, eqb-false}
use borrow.Rule.Slice.PartMut.{put_mid}
use Rattle.key.specs.Keys.{EMPTY, height_of, parts_of}
use Rattle.key.specs.declared.Parts.{Parts}
use Rattle.meaning.specs.Net.{Net, net_of, PairRule, word}
use Rattle.meaning.specs.Records.{rule_at}
use Rattle.meaning.specs.Trees.{joined}
use Rattle.meaning.specs.Lengths.{HELD, held_sum, RightCell, LowestEdge, Recorded}
use Rattle.meaning.specs.Computed.{lowest_edge}
use Rattle.meaning.specs.declared.Rule.TheVariants.{Label, Pair}
use Rattle.meaning.proofs.Rules.{LabelWords, PairWords, label_words, pair_words}
use Rattle.meaning.proofs.Joined.{joined_left, joined_right}
use Rattle.meaning.proofs.Edges.{lowest_found, lowest_one}
use Rattle.meaning.proofs.Recorded.{recorded_some, recorded_length}
use Rattle.witness.specs.Answers.{part}
use Rattle.witness.specs.Walks.{at_spot, left_spot, right_spot, net_at, EdgeReady, Walkable, WordsWritten, PartWritten, SidesWritten}
use Rattle.witness.specs.declared.spot.Spot.{Spot}
use Rattle.witness.specs.declared.table.Held.{Held}
use Rattle.witness.proofs.Windows.{length_part, part_past, part_whole, written_none, written_both}

-- which path is recorded does not depend on the number of nonterminals
recorded_any : {n m m' : ℕ} {rules edges t : List ℕ} {A i j : ℕ} {p : List ℕ} → Recorded (net_of n m rules edges) t A i j p
    → Recorded (net_of n m' rules edges) t A i j p
recorded_any (Recorded.leaf h l d) = Recorded.leaf h l d
recorded_any (Recorded.pair n l k u v) = Recorded.pair n l k (recorded_any u) (recorded_any v)

held_short : (a b : ℕ) {l : ℕ} → l ≡ held_sum a b → l < HELD → (a < HELD) × (b < HELD)
unfolding held_sum
held_short a b e h = (omega arith, omega arith)

module _ (held : Held) where
  abbrev rules : List ℕ
  rules = held.lists.rules.now

  abbrev edges : List ℕ
  edges = held.lists.edges.now

  abbrev t : List ℕ
  t = held.table.now

  abbrev ls : List ℕ
  ls = held.lengths.now

  module _ {s : Spot} (rd : Walkable held s) where
    abbrev g : Net
    g = net_at held s rd.nonterminals

    here : RightCell g t ls s.a s.i s.j
    here = rd.right.cell s.a s.i s.j rd.head rd.from rd.to

    path_length : {m : ℕ} {p : List ℕ} → Recorded (net_at held s m) t s.a s.i s.j p → length p ≡ at_spot ls s
    path_length way = recorded_length rd.sane rd.right (recorded_any way) rd.short

    -- no more is written than there is room for
    walked : {from r : ℕ} {l l' : List ℕ}
        → ((m : ℕ) (p : List ℕ) → Recorded (net_at held s m) t s.a s.i s.j p → WordsWritten (part from (length l) p) l l' r)
        → PartWritten held s from l l' r
    walked {from} {r} {l} f =
        let way = recorded_some rd.sane rd.right s.a s.i s.j rd.head rd.from rd.to rd.filled in
        record { fits = omega (arith, (f rd.nonterminals way.0 way.1).count, length_part from (length l) way.0); walk = f }

    -- the path lies before the window
    pub walk_before : (from : ℕ) (l : List ℕ) → at_spot ls s ≤ from → PartWritten held s from l l 0
    walk_before from l h = walked (λ m p way. rw (part_past from (length l) p (omega (arith, path_length way))) (written_none l))

    -- the window is full
    pub walk_full : (from : ℕ) (l : List ℕ) → length l ≡ 0 → PartWritten held s from l l 0
    walk_full from l h = walked (λ m p way. rw h (written_none l))

    module _ {k : Parts} (is : k ≡ parts_of (at_spot t s)) where
      -- the cell's rule goes to a label x: its path is one edge, the lowest that fits
      module _ {A x : ℕ} (said : Label A x ≡ rule_at rules k.rule) where
        w : LabelWords (word rules k.rule 0) (word rules k.rule 1) (word rules k.rule 2) A x
        w = label_words said

        -- what such a cell is
        record LeafCell : Type 0 where
          pub low : height_of (at_spot t s) ≡ 1
          pub edge : lowest_edge edges s.i x s.j < length edges / 3
          pub long : at_spot ls s ≡ 1

        leaf_here : RightCell g t ls s.a s.i s.j → LeafCell
        leaf_here (RightCell.empty e a) = absurd (omega (arith, rd.filled))
        leaf_here (RightCell.leaf y e h l m d a) =
            let same : y ≡ x = sym l.label ∙ (rw is at w.label) in
            record { low = h; edge = rw (← same) ((lowest_found edges s.i y s.j d).edge.inside); long = a }
        leaf_here (RightCell.pair B C κ f u l m hk b c e a) = absurd (l.pair (eqb-true _ _ (rw is at w.mark)))

        pub edge_ready : {path : List ℕ} → 0 < length path → EdgeReady edges s x path
        edge_ready room = record { few = rd.few; edge = (leaf_here here).edge; room = room }

        one_edge : {m : ℕ} {p : List ℕ} → Recorded (net_at held s m) t s.a s.i s.j p → p ≡ lowest_edge edges s.i x s.j ∷ []
        one_edge (Recorded.leaf {x = y} {e = e} _ l d) =
            let same : y ≡ x = sym l.label ∙ (rw is at w.label) in
            let d' : LowestEdge edges s.i x s.j e = rw (← same) d in
            ap (λ z. z ∷ []) (lowest_one edges s.i x s.j d' (lowest_found edges s.i x s.j d'.edge))
        one_edge (Recorded.pair n _ _ _ _) = absurd (n (leaf_here here).low)

        pub walk_leaf : {from r : ℕ} {l l' : List ℕ} → from < at_spot ls s → 0 < length l
            → WordsWritten (lowest_edge edges s.i x s.j ∷ []) l l' r → PartWritten held s from l l' r
        walk_leaf {from} {r} {l} {l'} low room w = walked (λ m p way.
            let z : from ≡ 0 = omega (arith, (leaf_here here).long) in
            rw (z, one_edge way, part_whole (length l) (lowest_edge edges s.i x s.j ∷ []) room) w)

      -- its rule goes to a pair B C: its path is the sides' paths, left then right
      module _ {A B C : ℕ} (said : Pair A B C ≡ rule_at rules k.rule) where
        v : PairWords (word rules k.rule 0) (word rules k.rule 1) (word rules k.rule 2) A B C
        v = pair_words said

        abbrev x : Spot
        x = left_spot s B k.middle

        abbrev y : Spot
        y = right_spot s C k.middle

        -- what such a cell is
        record PairCell : Type 0 where
          pub rule : PairRule rules k.rule s.a B C
          pub middle : k.middle < s.nodes
          pub left : at_spot t x < EMPTY
          pub right : at_spot t y < EMPTY
          pub above : 1 < height_of (at_spot t s)
          pub high : height_of (at_spot t s) ≡ joined (height_of (at_spot t x)) (height_of (at_spot t y))
          pub long : at_spot ls s ≡ held_sum (at_spot ls x) (at_spot ls y)

        pair_here : RightCell g t ls s.a s.i s.j → PairCell
        pair_here (RightCell.empty e a) = absurd (omega (arith, rd.filled))
        pair_here (RightCell.leaf z e h l m d a) = absurd (eqb-false _ _ (rw is at v.pair) l.mark)
        pair_here (RightCell.pair B' C' κ f u l m hk b c e a) =
            let sameB : B' ≡ B = sym l.left ∙ (rw is at v.left) in
            let sameC : C' ≡ C = sym l.right ∙ (rw is at v.right) in
            let middle : κ ≡ k.middle = m ∙ rw is in
            record {
              rule = rw is (rw (sameB, sameC) at l);
              middle = rw (← middle) hk;
              left = rw (← sameB, ← middle) b;
              right = rw (← sameC, ← middle) c;
              above = u;
              high = rw (← sameB, ← sameC, ← middle) e;
              long = rw (← sameB, ← sameC, ← middle) a;
            }

        cell : PairCell
        cell = pair_here here

        pub left_ready : Walkable held x
        left_ready = record {
          nonterminals = rd.nonterminals;
          sane = rd.sane;
          few = rd.few;
          right = rd.right;
          head = (rd.sane.pairs _ _ _ _ cell.rule).left;
          from = rd.from;
          to = cell.middle;
          filled = cell.left;
          short = (held_short _ _ cell.long rd.short).0;
        }

        pub right_ready : Walkable held y
        right_ready = record {
          nonterminals = rd.nonterminals;
          sane = rd.sane;
          few = rd.few;
          right = rd.right;
          head = (rd.sane.pairs _ _ _ _ cell.rule).right;
          from = cell.middle;
          to = rd.to;
          filled = cell.right;
          short = (held_short _ _ cell.long rd.short).1;
        }

        pub sides_fall : joined (height_of (at_spot t x)) (height_of (at_spot t y)) * 2 < height_of (at_spot t s) * 2 + 1
        sides_fall = omega (arith, cell.high)

        -- the recorded path is the sides' paths
        record TwoPaths (m : ℕ) (p : List ℕ) : Type 0 where
          pub left : List ℕ
          pub right : List ℕ
          pub both : p ≡ left ++ right
          pub first : Recorded (net_at held x m) t B s.i k.middle left
          pub second : Recorded (net_at held y m) t C k.middle s.j right

        two_paths : {m : ℕ} {p : List ℕ} → Recorded (net_at held s m) t s.a s.i s.j p → TwoPaths m p
        two_paths (Recorded.leaf h _ _) = absurd (omega (arith, cell.above))
        two_paths (Recorded.pair {B = B'} {C = C'} {k = κ} {p = q} {q = r} _ l m a b) =
            let sameB : B' ≡ B = sym l.left ∙ (rw is at v.left) in
            let sameC : C' ≡ C = sym l.right ∙ (rw is at v.right) in
            let middle : κ ≡ k.middle = m ∙ rw is in
            record { left = q; right = r; both = refl; first = rw (← sameB, ← middle) a; second = rw (← sameC, ← middle) b }

        pub walk_pair : {from r : ℕ} {l l' : List ℕ} → SidesWritten held x y from l l' r → PartWritten held s from l l' r
        walk_pair {from} {r} {l} {l'} w = walked (λ m p way.
            let two = two_paths way in
            rw two.both (w.walk m two.left two.right two.first two.second))

  -- the two sides, one after the other
  module _ {x y : Spot} (rx : Walkable held x) (ry : Walkable held y) where
    pub left_falls : height_of (at_spot t x) * 2 + 1 < joined (height_of (at_spot t x)) (height_of (at_spot t y)) * 2
    left_falls = omega (arith, joined_left (height_of (at_spot t x)) (height_of (at_spot t y)))

    pub right_falls : height_of (at_spot t y) * 2 + 1 < joined (height_of (at_spot t x)) (height_of (at_spot t y)) * 2
    right_falls = omega (arith, joined_right (height_of (at_spot t x)) (height_of (at_spot t y)))

    pub walk_both : {from rest w v : ℕ} {l l₁ l₂ : List ℕ} → rest ≡ from - at_spot ls x
        → PartWritten held x from l l₁ w → PartWritten held y rest (take (length l₁ - w) (drop w l₁)) l₂ v → w + v ≤ length l
        → SidesWritten held x y from l (put_mid w (length l₁ - w) l₁ l₂) (w + v)
    walk_both {from} {rest} {w} {v} {l} {l₁} {l₂} er a b f = record {
      fits = f;
      walk = λ m p q first second.
          let e : rest ≡ from - length p = er ∙ rw (path_length rx first) in
          written_both from p q l l₁ l₂ w v (a.walk m p first) (rw e at (b.walk m q second));
    }
