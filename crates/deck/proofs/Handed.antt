-- What a deck that passed a stage has, for the stages behind it. Assumes nothing.
use mathlib.Core.List.{List}
use mathlib.Core.Bool.{true, ◌&&◌}
use mathlib.Core.Path.{◌≡◌}
use Prim.Native.Nat.{ℕ, ◌*◌, ◌%◌, ◌≤◌, ◌<◌}
use native.Mathlib.Omega.{arith}
use lib.ListN.{length}
use lib.Dec.{leb, ltb, eqb}
use borrow.Author.Tests.{lt-ltb, ltb-true, leb-true, eqb-true}
use Rattle.words.specs.Refusals.{Refusal, must, ◌and_then◌, scan, Good}
use Rattle.words.proofs.First.{first_le}
use Rattle.words.proofs.Refusals.{both, must_good, and_good, and_assoc, and_stop, and_next, scan_good}
use Rattle.std.specs.Prelude.{Err, Some}
use Rattle.words.specs.declared.Reason.TheVariants.{WrongSize, WrongNumber, WrongEdge, UnknownKind}
use Rattle.numbers.specs.Numbers.{in_limits, room_check}
use Rattle.numbers.proofs.Right.{Between, between_true, room_good}
use Rattle.deck.specs.Blocks.{blocks, type_of, word_at, first_of, record_at}
use Rattle.deck.specs.Reads.{header_of, right_size, size_check, frame_check, limit_check, header_check, fill_check, totals_check, entry_check, rule_record_check, entry_of, right_nodes, right_kind, edge_record_check, deck_check, read_check}
use Rattle.deck.specs.Stages.{RightMap, RightEdges, limits_of, label_at, lists_room}
use Rattle.deck.specs.declared.Header.{Header}

pub first_small : (d : List ℕ) (t : ℕ) → length d ≤ 29696 → first_of d t ≤ 58
unfolding first_of
first_small d t h = omega (arith, first_le (λ b. leb t (type_of d b)) (blocks d))

-- a deck of right size
pub record Sized (d : List ℕ) : Type 0 where
  pub some : 512 ≤ length d
  pub most : length d ≤ 29696

pub sized : (d : List ℕ) → size_check d ≡ Good → Sized d
unfolding size_check
sized d e =
    let a = (both (ltb 0 (length d) && eqb (length d % 512) 0) (leb (length d) 29696)).0 ((must_good (right_size d) WrongSize 0).0 e) in
    let b = (both (ltb 0 (length d)) (eqb (length d % 512) 0)).0 a.0 in
    let z = ltb-true 0 (length d) b.0 in
    let w = eqb-true (length d % 512) 0 b.1 in
    record { some = omega arith; most = leb-true (length d) 29696 a.1 }

-- a header within its limits
pub record Limited (d : List ℕ) : Type 0 where
  pub nodes : Between 1 64 (word_at d 0 0)
  pub nonterminals : Between 1 32 (word_at d 0 1)
  pub labels : Between 1 255 (word_at d 0 2)
  pub entries : Between 0 256 (word_at d 0 3)
  pub rules : Between 0 256 (word_at d 0 4)
  pub edges : Between 0 4096 (word_at d 0 5)
  pub query : word_at d 0 6 < word_at d 0 1

pub limited : (d : List ℕ) → header_check d ≡ Good → Limited d
unfolding header_check in_limits
limited d e =
    let a = (and_good (scan (limit_check d) 6) _).0 e in
    let c = (scan_good (limit_check d) 6).0 a.0 in
    record {
      nodes = (between_true _ _ _).0 ((must_good _ WrongNumber 0).0 (c 0 (omega arith)));
      nonterminals = (between_true _ _ _).0 ((must_good _ WrongNumber 1).0 (c 1 (omega arith)));
      labels = (between_true _ _ _).0 ((must_good _ WrongNumber 2).0 (c 2 (omega arith)));
      entries = (between_true _ _ _).0 ((must_good _ WrongNumber 3).0 (c 3 (omega arith)));
      rules = (between_true _ _ _).0 ((must_good _ WrongNumber 4).0 (c 4 (omega arith)));
      edges = (between_true _ _ _).0 ((must_good _ WrongNumber 5).0 (c 5 (omega arith)));
      query = ltb-true _ _ ((must_good _ WrongNumber 6).0 a.1);
    }

-- the limits of the header's numbers, one by one
pub limits_are : (d : List ℕ) → header_check d ≡ limits_of (header_of d)
unfolding header_check limits_of scan ◌and_then◌
limits_are d = simp and_assoc

-- edges that have passed
pub edge_right : (d : List ℕ) → RightEdges d → (e : ℕ) → e < word_at d 0 5 → (right_nodes d e ≡ true) × (right_kind d e ≡ true)
unfolding edge_record_check
edge_right d ok e h =
    let g = (and_good (must (right_nodes d e) WrongEdge e) (must (right_kind d e) UnknownKind e)).0 ((scan_good (edge_record_check d) (word_at d 0 5)).0 ok e h) in
    ((must_good (right_nodes d e) WrongEdge e).0 g.0, (must_good (right_kind d e) UnknownKind e).0 g.1)

pub edge_known : (d : List ℕ) → RightEdges d → (e : ℕ) → e < word_at d 0 5 → entry_of d (record_at d 4 e 1) < word_at d 0 3
edge_known d ok e h = ltb-true _ _ (edge_right d ok e h).1

-- the label of a right edge's kind
pub edge_label : (d : List ℕ) → RightEdges d → (e : ℕ) → e < word_at d 0 5 → label_at d (record_at d 4 e 1) ≡ Some (record_at d 2 (entry_of d (record_at d 4 e 1)) 1)
unfolding label_at
edge_label d ok e h = rw (lt-ltb _ _ (edge_known d ok e h))

-- all passed but the room
pub record RightDeck (d : List ℕ) : Type 0 where
  pub size : size_check d ≡ Good
  pub frames : scan (frame_check d) (blocks d) ≡ Good
  pub header : header_check d ≡ Good
  pub fills : scan (fill_check d) (blocks d) ≡ Good
  pub totals : totals_check d ≡ Good
  pub entries : RightMap d
  pub rules : scan (rule_record_check d) (word_at d 0 4) ≡ Good
  pub edges : RightEdges d

pub right_deck : (d : List ℕ) → deck_check d ≡ Good → RightDeck d
unfolding deck_check
right_deck d e =
    let a = (and_good (size_check d) _).0 e in
    let b = (and_good (scan (frame_check d) (blocks d)) _).0 a.1 in
    let c = (and_good (header_check d) _).0 b.1 in
    let f = (and_good (scan (fill_check d) (blocks d)) _).0 c.1 in
    let g = (and_good (totals_check d) _).0 f.1 in
    let h = (and_good (scan (entry_check d) (word_at d 0 3)) _).0 g.1 in
    let i = (and_good (scan (rule_record_check d) (word_at d 0 4)) _).0 h.1 in
    record {
      size = a.0;
      frames = b.0;
      header = c.0;
      fills = f.0;
      totals = g.0;
      entries = h.0;
      rules = i.0;
      edges = i.1;
    }

-- the room of the lists is asked last
module _ (d : List ℕ) (rules edges : ℕ) where
  pub read_stop : {r : Refusal} → deck_check d ≡ Err r → read_check d rules edges ≡ Err r
  unfolding read_check
  read_stop e = and_stop _ e

  pub read_next : deck_check d ≡ Good → read_check d rules edges ≡ lists_room (header_of d) rules edges
  unfolding read_check
  read_next e = and_next e

pub lists_fit : (h : Header) (rules edges : ℕ) → lists_room h rules edges ≡ Good → (3 * h.rules ≤ rules) × (3 * h.edges ≤ edges)
lists_fit h rules edges e =
    let b = (and_good (room_check 3 (3 * h.rules) rules) (room_check 4 (3 * h.edges) edges)).0 e in
    ((room_good _ _ _).0 b.0, (room_good _ _ _).0 b.1)
