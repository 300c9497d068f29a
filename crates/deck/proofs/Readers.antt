-- Loops over a reader's blocks. Assumes nothing.
use mathlib.Core.List.{List}
use mathlib.Core.Bool.{false}
use mathlib.Core.Path.{◌≡◌, refl, ap, sym, ◌∙◌}
use Prim.Native.Nat.{ℕ, ◌+◌, ◌*◌, ◌≤◌, ◌<◌}
use mathlib.Core.Logic.{◌≢◌}
use native.Mathlib.Nat.{le_antisymm, not-suc-le-zero}
use Rattle.std.proofs.Common.{add-zero}
use native.Mathlib.Omega.{arith}
use lib.Dec.{leb}
use borrow.Author.Count.{below_more}
use borrow.Author.Tests.{le-leb, lt-leb, eq-eqb, ne_eqb}
use Rattle.words.proofs.First.{first_at, first_end}
use Rattle.words.specs.Refusals.{Refusal, scan, Check, Good}
use Rattle.words.proofs.Refusals.{scan_good, scan_bad, scan_more}
use Rattle.std.specs.Prelude.{Err}
use Rattle.deck.specs.Blocks.{blocks, type_of, used_of, records_in, total, first_of}
use Rattle.deck.proofs.Sums.{total_more}
use Rattle.deck.specs.Reads.{frame_check}
use Rattle.deck.specs.Readers.{GivesBlock}
use Rattle.deck.specs.declared.reader.Block.{Block}
use Rattle.deck.specs.declared.reader.Reader.{Reader}

-- r reads d, and the blocks that it has handed out pass a check
pub record Passed (check : ℕ → Check) (d : List ℕ) (r : Reader) : Type 0 where
  pub deck : r.deck.now ≡ d
  pub inside : r.next ≤ blocks d
  pub good : scan check r.next ≡ Good

module _ (check : ℕ → Check) where
  pub passed_none : {d : List ℕ} {r : Reader} → r.deck.now ≡ d → r.next ≡ 0 → Passed check d r
  unfolding scan
  passed_none e z = record { deck = e; inside = omega arith; good = rw z refl }

  module _ {d : List ℕ} {r moved : Reader} {b : Block} (p : Passed check d r) (h : GivesBlock r b moved) where
    same : check r.next ≡ check b.position
    same = ap check (sym h.block_position)

    below : r.next + 1 ≤ blocks d
    below = omega (arith, rw p.deck at h.inside)

    pub passed_more : check b.position ≡ Good → Passed check d moved
    passed_more e = record {
      deck = h.same_deck ∙ p.deck;
      inside = rw h.on below;
      good = rw h.on (scan_more _ _ p.good (same ∙ e));
    }

    pub passed_bad : {x : Refusal} → check b.position ≡ Err x → scan check (blocks d) ≡ Err x
    passed_bad e = scan_bad check (blocks d) r.next (omega (arith, below)) p.good (same ∙ e)

  pub passed_all : {d : List ℕ} {r : Reader} → Passed check d r → blocks r.deck.now ≤ r.next → scan check (blocks d) ≡ Good
  passed_all {d} {r} p h = ap (scan check) (le_antisymm (rw p.deck at h) p.inside) ∙ p.good

-- each block of a deck that passed its frames
pub framed_each : (d : List ℕ) (b : Block) → scan (frame_check d) (blocks d) ≡ Good → b.deck.now ≡ d → frame_check b.deck.now b.position ≡ Good
framed_each d b ok e = rw e ((scan_good (frame_check d) (blocks d)).0 ok b.position (omega (arith, rw e at b.whole)))

-- r reads d, and no block that it has handed out has type t or a later one
pub record Lower (d : List ℕ) (t : ℕ) (r : Reader) : Type 0 where
  pub deck : r.deck.now ≡ d
  pub inside : r.next ≤ blocks d
  pub lower : (k : ℕ) → k < r.next → leb t (type_of d k) ≡ false

module _ (d : List ℕ) (t : ℕ) where
  pub lower_none : {r : Reader} → r.deck.now ≡ d → r.next ≡ 0 → Lower d t r
  lower_none e z = record { deck = e; inside = omega arith; lower = λ k h. absurd (not-suc-le-zero (rw z at h)) }

  module _ {r moved : Reader} {b : Block} (p : Lower d t r) (h : GivesBlock r b moved) where
    type : type_of b.deck.now b.position ≡ type_of d r.next
    type = rw (h.block_position, h.block_deck, p.deck)

    in_deck : r.next + 1 ≤ blocks d
    in_deck = omega (arith, rw p.deck at h.inside)

    pub lower_more : type_of b.deck.now b.position < t → Lower d t moved
    lower_more l = record {
      deck = h.same_deck ∙ p.deck;
      inside = rw h.on in_deck;
      lower = rw h.on (below_more (λ k. leb t (type_of d k) ≡ false) r.next p.lower (lt-leb _ _ (rw type at l)));
    }

    pub lower_here : t ≤ type_of b.deck.now b.position → b.position ≡ first_of d t
    unfolding first_of
    lower_here l =
        h.block_position ∙ sym (first_at _ (blocks d) r.next (omega (arith, in_deck)) p.lower (λ _. le-leb _ _ (rw type at l)))

  pub lower_all : {r : Reader} → Lower d t r → blocks r.deck.now ≤ r.next → blocks d ≡ first_of d t
  unfolding first_of
  lower_all {r} p h =
      sym ((first_end _ (blocks d)).1 (λ k l. p.lower k (omega (arith, rw p.deck at h))))

-- r reads d, and the blocks that it has handed out have n records of type t
pub record Counted (d : List ℕ) (t : ℕ) (r : Reader) (n : ℕ) : Type 0 where
  pub deck : r.deck.now ≡ d
  pub inside : r.next ≤ blocks d
  pub is : n ≡ total d t r.next
  pub most : n ≤ 255 * r.next

module _ (d : List ℕ) (t : ℕ) where
  pub counted_none : {r : Reader} → r.deck.now ≡ d → r.next ≡ 0 → Counted d t r 0
  unfolding total
  counted_none e z = record { deck = e; inside = omega arith; is = rw z refl; most = omega arith }

  module _ {r moved : Reader} {b : Block} {n : ℕ} (p : Counted d t r n) (h : GivesBlock r b moved) where
    more : (u : ℕ) → u < 256 → u ≡ records_in d t r.next → Counted d t moved (n + u)
    more u small e = record {
      deck = h.same_deck ∙ p.deck;
      inside = rw h.on (omega (arith, rw p.deck at h.inside));
      is = rw h.on (omega (arith, total_more d t r.next, p.is));
      most = rw h.on (omega (arith, p.most));
    }

    here : type_of b.deck.now b.position ≡ type_of d r.next
    here = rw (h.block_position, h.block_deck, p.deck)

    pub counted_used : (u : ℕ) → u < 256 → u ≡ used_of b.deck.now b.position → type_of b.deck.now b.position ≡ t → Counted d t moved (n + u)
    counted_used u small e q = more u small (rw (eq-eqb _ _ (sym here ∙ q)) (rw (h.block_position, h.block_deck, p.deck) at e))

    pub counted_other : type_of b.deck.now b.position ≢ t → Counted d t moved n
    counted_other q = let m = more 0 (omega arith) (rw (ne_eqb _ _ (λ e. q (here ∙ e)))) in rw add-zero at m

  pub counted_all : {r : Reader} {n : ℕ} → Counted d t r n → blocks r.deck.now ≤ r.next → n ≡ total d t (blocks d)
  counted_all {r} p h = p.is ∙ ap (total d t) (le_antisymm p.inside (rw p.deck at h))
