-- Lengths as they become known: none, one more, and two stretches after each other. Assumes nothing.
use mathlib.Core.Path.{◌≡◌, refl, ap, ◌∙◌}
use mathlib.Core.List.{List, ◌++◌}
use mathlib.Core.Logic.{◌≢◌, inl, inr}
use mathlib.Core.Bool.{Bool, true, false, cond, ◌||◌}
use Prim.Native.Nat.{ℕ, ◌+◌, ◌≤◌, ◌<◌}
use native.Mathlib.Omega.{arith}
use native.Mathlib.Nat.{le_refl}
use native.Mathlib.Decide.{ℕ_discrete}
use lib.ListN.{length, get_or, set, drop, replicate, length-set, length-replicate}
use lib.Seq.{get_or-set_same, get_or-set_other, drop-set-lt}
use lib.Dec.{eqb}
use borrow.Author.Tests.{eq-eqb, ne_eqb}
use Rattle.key.specs.Keys.{EMPTY, height_of}
use Rattle.words.specs.Tab.{over}
use Rattle.words.proofs.Tab.{length-fill, get_or-fill}
use Rattle.meaning.specs.Lengths.{held_sum}
use Rattle.meaning.proofs.Sums.{sum_less}
use Rattle.closure.specs.declared.Size.{Size}
use Rattle.closure.specs.Sizes.{count}
use Rattle.closure.specs.Fills.{left_side, right_side, PairCell, KnownCell, unknown, one, sides, KnownLengths, Wanted, Idle, empty, known as is_known, zeros, MoreKnown, Filled, LengthsFilled}

pub held_pos : (a b : ℕ) → a ≢ 0 → held_sum a b ≢ 0
unfolding held_sum
held_pos a b h e = h (omega arith)

or_left : (a b : Bool) → (a || b) ≡ false → a ≡ false
or_left false b e = refl
or_left true b e = e

or_right : (a b : Bool) → (a || b) ≡ false → b ≡ false
or_right false b e = e
or_right true b e = absurd (let k : ◌≡◌ {A = ℕ} 0 1 = cc in omega arith)

module _ (z : Size) (rules t : List ℕ) where
  pub filled_none : (ls : List ℕ) → KnownLengths z rules t ls → Filled z rules t ls ls false
  filled_none ls known = record { known = known; grown = refl; kept = refl }

  pub filled_more : (ls ls' ls'' : List ℕ) (a b : Bool) → Filled z rules t ls ls' a → Filled z rules t ls' ls'' b → Filled z rules t ls ls'' (a || b)
  filled_more ls ls' ls'' a b p q = record { known = q.known; grown = go a b p.grown q.grown; kept = q.kept ∙ p.kept }
    where
      go : (a b : Bool) → MoreKnown z ls ls' a → MoreKnown z ls' ls'' b → MoreKnown z ls ls'' (a || b)
      go true true l m = omega arith
      go true false l e = rw e l
      go false true e m = rw (← e) m
      go false false e d = d ∙ e

  -- a word that was not known becomes known: others stay as they are
  module _ (ls : List ℕ) (c v : ℕ) (known : KnownLengths z rules t ls) (inside : c < count z) (unset : get_or ls c 0 ≡ 0) (pos : v ≢ 0) where
    abbrev now : List ℕ
    now = set ls c v

    same : (x : ℕ) → get_or ls x 0 ≢ 0 → get_or now x 0 ≡ get_or ls x 0
    same x h = get_or-set_other ls c x v 0 (λ e. h (ap (λ y. get_or ls y 0) e ∙ unset))

    here : get_or now c 0 ≡ v
    here = get_or-set_same ls c v 0 (omega (arith, known.long))

    stays : (x : ℕ) → x ≢ c → KnownCell z rules t ls x → KnownCell z rules t now x
    stays x n (unknown e) = unknown (get_or-set_other ls c x v 0 n ∙ e)
    stays x n (one f h e) = one f h (get_or-set_other ls c x v 0 n ∙ e)
    stays x n (sides p l r e) =
        let el = same (left_side z rules t x) l in
        let er = same (right_side z rules t x) r in
        sides p (rw el l) (rw er r) (get_or-set_other ls c x v 0 n ∙ rw (el, er) e)

    fewer : zeros now (count z) < zeros ls (count z)
    fewer =
        sum_less (λ a. cond (eqb (get_or now a 0) 0) 1 0) (λ a. cond (eqb (get_or ls a 0) 0) 1 0) (λ a. below a (ℕ_discrete a c)) c
        (rw (here, ne_eqb v 0 pos, eq-eqb (get_or ls c 0) 0 unset) (omega arith)) (count z) inside
      where
        below : (a : ℕ) → Dec (a ≡ c) → cond (eqb (get_or now a 0) 0) 1 0 ≤ cond (eqb (get_or ls a 0) 0) 1 0
        below a (yes e) = rw (e, here, ne_eqb v 0 pos) (omega arith)
        below a (no n) = rw (get_or-set_other ls c a v 0 n) (le_refl _)

    filled_set : KnownCell z rules t now c → (P : ℕ → Type 0) → LengthsFilled z rules t ls now P true
    filled_set new P = record {
      filled = record {
        known = record { long = rw length-set known.long; cell = λ x l. go x l (ℕ_discrete x c) };
        grown = fewer;
        kept = drop-set-lt (count z) ls c v inside;
      };
      idle = λ e. absurd (let q : ◌≡◌ {A = ℕ} 0 1 = cc in omega arith);
    }
      where
        go : (x : ℕ) → x < count z → Dec (x ≡ c) → KnownCell z rules t now x
        go x l (yes e) = rw e new
        go x l (no n) = stays x n (known.cell x l)

  -- the length of a cell of height 1
  pub filled_one : (ls : List ℕ) (c : ℕ) → KnownLengths z rules t ls → c < count z → get_or ls c 0 ≡ 0 → get_or t c 0 < EMPTY → height_of (get_or t c 0) ≡ 1
      → (P : ℕ → Type 0) → LengthsFilled z rules t ls (set ls c 1) P true
  filled_one ls c known inside unset f h =
      filled_set ls c 1 known inside unset (λ e. omega arith) (one f h (here ls c 1 known inside unset (λ e. omega arith)))

  -- the length of a pair cell, once those of its sides, a and b, are known
  pub filled_pair : (ls : List ℕ) (c a b v : ℕ) → KnownLengths z rules t ls → c < count z → get_or ls c 0 ≡ 0 → PairCell t c
      → a ≡ left_side z rules t c → b ≡ right_side z rules t c → get_or ls a 0 ≢ 0 → get_or ls b 0 ≢ 0
      → v ≡ held_sum (get_or ls a 0) (get_or ls b 0) → (P : ℕ → Type 0) → LengthsFilled z rules t ls (set ls c v) P true
  filled_pair ls c a b v known inside unset p ea eb l r e =
      let pos : v ≢ 0 = rw e (held_pos (get_or ls a 0) (get_or ls b 0) l) in
      let el = same ls c v known inside unset pos a l in
      let er = same ls c v known inside unset pos b r in
      filled_set ls c v known inside unset pos
      (sides p (rw (← ea, el) l) (rw (← eb, er) r) (rw (← ea, ← eb, el, er) (here ls c v known inside unset pos ∙ e)))

  -- what is not wanted is idle
  pub idle_unwanted : (ls : List ℕ) (c : ℕ) → Wanted t ls c false → Idle z rules t ls c
  idle_unwanted ls c (inl e) = empty e
  idle_unwanted ls c (inr n) = is_known n

  -- nothing to do at c
  pub filled_idle : (ls : List ℕ) (c : ℕ) → KnownLengths z rules t ls → Idle z rules t ls c → LengthsFilled z rules t ls ls (λ x. x ≡ c) false
  filled_idle ls c known idle = record { filled = filled_none ls known; idle = λ e x q. rw q idle }

  -- what is idle after two stretches
  pub filled_then : (ls ls' ls'' : List ℕ) (P : ℕ → Type 0) (a b : Bool) → Filled z rules t ls ls' a → LengthsFilled z rules t ls' ls'' P b
      → LengthsFilled z rules t ls ls'' P (a || b)
  filled_then ls ls' ls'' P a b p q = record { filled = filled_more ls ls' ls'' a b p q.filled; idle = λ e. q.idle (or_right a b e) }

  -- one more cell of a sweep
  pub filled_next : (ls ls' ls'' : List ℕ) (c : ℕ) (a b : Bool) → LengthsFilled z rules t ls ls' (λ x. x < c) a → LengthsFilled z rules t ls' ls'' (λ x. x ≡ c) b
      → LengthsFilled z rules t ls ls'' (λ x. x < c + 1) (a || b)
  filled_next ls ls' ls'' c a b p q = record {
    filled = filled_more ls ls' ls'' a b p.filled q.filled;
    idle = λ e x l. go e x l (ℕ_discrete x c);
  }
    where
      go : (a || b) ≡ false → (x : ℕ) → x < c + 1 → Dec (x ≡ c) → Idle z rules t ls'' x
      go e x l (yes h) = q.idle (or_right a b e) x h
      go e x l (no h) = rw (same_if b (or_right a b e) q.filled.grown) (p.idle (or_left a b e) x (omega arith))
        where
          same_if : (b : Bool) → b ≡ false → MoreKnown z ls' ls'' b → ls'' ≡ ls'
          same_if false e h = h
          same_if true e h = absurd (let k : ◌≡◌ {A = ℕ} 0 1 = cc in omega arith)

  -- a sweep goes past an idle cell
  pub filled_pass : (ls ls' : List ℕ) (c : ℕ) (a : Bool) → LengthsFilled z rules t ls ls' (λ x. x < c) a → Idle z rules t ls' c
      → LengthsFilled z rules t ls ls' (λ x. x < c + 1) a
  filled_pass ls ls' c a p i = record { filled = p.filled; idle = λ e x l. go e x l (ℕ_discrete x c) }
    where
      go : a ≡ false → (x : ℕ) → x < c + 1 → Dec (x ≡ c) → Idle z rules t ls' x
      go e x l (yes h) = rw h i
      go e x l (no h) = p.idle e x (omega arith)

  -- nothing known yet
  pub known_none : (ls : List ℕ) → count z ≤ length ls → KnownLengths z rules t (over (replicate (count z) 0) ls)
  known_none ls long = record {
    long = rw (length-fill (count z) 0 ls long) long;
    cell = λ c l. unknown (get_or-fill (count z) 0 ls c l);
  }

-- what lies past a front that is written is all that counts
pub over_same : (n v : ℕ) (l l' : List ℕ) → drop n l ≡ drop n l' → over (replicate n v) l ≡ over (replicate n v) l'
unfolding over
over_same n v l l' e = rw (length-replicate n v, e)

-- a front that is filled
pub over_front : (n v : ℕ) (l w : List ℕ) → w ≡ replicate n v → w ++ drop n l ≡ over (replicate n v) l
unfolding over
over_front n v l w e = rw (length-replicate n v, e) refl
