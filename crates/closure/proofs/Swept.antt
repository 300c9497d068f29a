-- Stretches of steps: none, one, and two after each other. Assumes nothing.
use mathlib.Core.Path.{◌≡◌, refl, sym, ap, subst, ◌∙◌}
use mathlib.Core.List.{List, [], ◌∷◌, ◌++◌, append_assoc}
use mathlib.Core.Logic.{◌⊎◌, inl, inr}
use mathlib.Core.Bool.{Bool, true, false}
use Prim.Native.Nat.{ℕ, zero, suc, ◌+◌, ◌/◌, ◌≤◌, ◌<◌}
use native.Mathlib.Omega.{arith}
use native.Mathlib.Numerals.{add-one}
use native.Mathlib.Decide.{ℕ_discrete}
use lib.ListN.{length, get_or, set, drop, length-set}
use lib.Seq.{get_or-set_same, get_or-set_other, drop-set-lt}
use borrow.Author.Tests.{eqb-false, lt-ltb, eq-eqb, ne_eqb}
use Rattle.key.specs.Keys.{EMPTY, HIGHEST, height_of}
use Rattle.meaning.specs.Net.{word}
use Rattle.meaning.specs.Table.{cell, total}
use Rattle.meaning.specs.Steps.{Step, candidate, offer, step, wins, too_high, target_of, left_of, right_of, after}
use Rattle.meaning.specs.Passes.{ask_of, each, rule_steps, steps_of}
use Rattle.meaning.proofs.Joined.{joined_left}
use Rattle.meaning.proofs.Rules.{PairWords}
use Rattle.meaning.proofs.Cells.{cell_in, Given, candidate_left, candidate_cases}
use Rattle.meaning.proofs.Sums.{total_less}
use Rattle.meaning.proofs.Steps.{step_wins, step_keeps, step_falls}
use Rattle.meaning.proofs.After.{after-append}
use Rattle.words.specs.Refusals.{Refusal}
use Rattle.closure.specs.declared.Size.{Size}
use Rattle.closure.specs.declared.PairRule.{PairRule}
use Rattle.std.specs.declared.result.Result.TheVariants.{Ok, Err}
use Rattle.closure.specs.Sizes.{count, LowTable, RuleInside, RulesInside}
use Rattle.closure.specs.Passes.{Finding, merged, StepMade, ask, row_steps, pair_steps, Higher, Found, Swept, passes, Settled}

-- the cells of a row are next to each other
pub cell_next : (n A i j : ℕ) → cell n A i 0 + j ≡ cell n A i j
unfolding cell
cell_next n A i j = omega arith

-- a further step too high
higher_left : (n : ℕ) (t : List ℕ) (ss ss' : List Step) (r : Refusal) → Higher n t ss r → Higher n t (ss ++ ss') r
higher_left n t ss ss' r h = record {
  done = h.done;
  step = h.step;
  rest = h.rest ++ ss';
  split = ap (λ l. l ++ ss') h.split ∙ append_assoc h.done (h.step ∷ h.rest) ss';
  high = h.high;
  is = h.is;
}

higher_right : (n : ℕ) (t : List ℕ) (ss ss' : List Step) (r : Refusal) → Higher n (after n t ss) ss' r → Higher n t (ss ++ ss') r
higher_right n t ss ss' r h = record {
  done = ss ++ h.done;
  step = h.step;
  rest = h.rest;
  split = ap (λ l. ss ++ l) h.split ∙ sym (append_assoc ss h.done (h.step ∷ h.rest));
  high = rw (after-append n t ss h.done) h.high;
  is = h.is;
}

module _ (z : Size) where
  pub swept_none : (t : List ℕ) → LowTable z t → Swept z [] t t (Ok false)
  swept_none t low = record { found = (refl, refl); low = low; kept = refl }

  -- two stretches after each other, either of which may find a step too high
  pub swept_more : (ss ss' : List Step) (t t' t'' : List ℕ) (a b : Finding) → Swept z ss t t' a → Swept z ss' t' t'' b
      → Swept z (ss ++ ss') t t'' (merged a b)
  swept_more ss ss' t t' t'' a b p q = record { found = go a b p.found q.found; low = q.low; kept = q.kept ∙ p.kept }
    where
      n : ℕ
      n = z.nodes

      go : (a b : Finding) → Found z ss t t' a → Found z ss' t' t'' b → Found z (ss ++ ss') t t'' (merged a b)
      go (Ok false) (Ok false) (e, d) (f, h) = rw (after-append n t ss ss', e, ← d) (f, h)
      go (Ok false) (Ok true) (e, d) (f, l) = rw (after-append n t ss ss', e, ← d) (f, l)
      go (Ok false) (Err r) (e, d) h = higher_right n t ss ss' r (rw (e, ← d) h)
      go (Ok true) (Ok false) (e, l) (f, h) = rw (after-append n t ss ss', ← e, f, h) (refl, l)
      go (Ok true) (Ok true) (e, l) (f, m) = rw (after-append n t ss ss', ← e) (f, omega arith)
      go (Ok true) (Err r) (e, l) h = higher_right n t ss ss' r (rw (← e) h)
      go (Err r) b h q = higher_left n t ss ss' r h

  -- one more turn of a loop
  pub swept_next : (f : ℕ → List Step) (x : ℕ) (t t' t'' : List ℕ) (a b : Finding) → Swept z (each x f) t t' a → Swept z (f x) t' t'' b
      → Swept z (each (x + 1) f) t t'' (merged a b)
  swept_next f x t t' t'' a b p q = rw (add-one x) (swept_more (each x f) (f x) t t' t'' a b p q)

  -- or one whose steps change nothing
  pub swept_skip : (f : ℕ → List Step) (x : ℕ) (t t' : List ℕ) (a : Bool) → Swept z (each x f) t t' (Ok a) → Swept z (f x) t' t' (Ok false)
      → Swept z (each (x + 1) f) t t' (Ok a)
  swept_skip f x t t' false p q = swept_next f x t t' t' (Ok false) (Ok false) p q
  swept_skip f x t t' true p q = swept_next f x t t' t' (Ok true) (Ok false) p q

  -- a loop that stops at a step too high: so it would with all its turns
  pub swept_stop : (f : ℕ → List Step) (x n : ℕ) (t t' t'' : List ℕ) (a : Bool) (r : Refusal) → x < n → Swept z (each x f) t t' (Ok a)
      → Swept z (f x) t' t'' (Err r) → Swept z (each n f) t t'' (Err r)
  swept_stop f x zero t t' t'' a r l p q = absurd (omega arith)
  swept_stop f x (suc n) t t' t'' a r l p q = go (ℕ_discrete x n) (λ m. swept_stop f x n t t' t'' a r m p q)
    where
      go : Dec (x ≡ n) → (x < n → Swept z (each n f) t t'' (Err r)) → Swept z (each (suc n) f) t t'' (Err r)
      go (yes e) before = rw (← e) (swept_more (each x f) (f x) t t' t'' (Ok a) (Err r) p q)
      go (no d) before =
          let h = before (omega arith) in
          record { found = higher_left z.nodes t (each n f) (f n) r h.found; low = h.low; kept = h.kept }

  -- steps that change nothing
  pub swept_idle : (t : List ℕ) → LowTable z t → (f : ℕ → Step) (c : ℕ) → ((x : ℕ) → step z.nodes t (f x) ≡ t) → Swept z (each c λ x. f x ∷ []) t t (Ok false)
  swept_idle t low f zero idle = swept_none t low
  swept_idle t low f (suc c) idle =
      swept_more (each c λ x. f x ∷ []) (f c ∷ []) t t t (Ok false) (Ok false) (swept_idle t low f c idle)
      (record { found = (idle c, refl); low = low; kept = refl })

high_true : (n : ℕ) (t : List ℕ) (s : Step) → offer n t s < get_or t (target_of n s) 0 → HIGHEST < height_of (offer n t s) → too_high n t s ≡ true
unfolding too_high wins
high_true n t s l h = rw (lt-ltb _ _ l, lt-ltb _ _ h) refl

module _ (z : Size) (p : PairRule) (i k j : ℕ) (t t' : List ℕ) where
  abbrev s : Step
  s = ask p i k j

  module _ (low : LowTable z t) (inside : target_of z.nodes s < count z) where
    -- what a written candidate leaves
    written_low : (v : ℕ) → height_of v ≤ HIGHEST → t' ≡ set t (target_of z.nodes s) v → LowTable z t'
    written_low v h e = record { long = rw (e, length-set) low.long; cell = λ c l f. go c l f (ℕ_discrete c (target_of z.nodes s)) }
      where
        go : (c : ℕ) → c < count z → get_or t' c 0 < EMPTY → Dec (c ≡ target_of z.nodes s) → height_of (get_or t' c 0) ≤ HIGHEST
        go c l f (yes q) = rw (e, q, get_or-set_same t (target_of z.nodes s) v 0 (omega (arith, low.long))) h
        go c l f (no q) =
            let d : get_or t' c 0 ≡ get_or t c 0 = rw e (get_or-set_other t (target_of z.nodes s) c v 0 q) in
            rw d (low.cell c l (rw d at f))

    -- one step
    pub swept_join : (a : Finding) → StepMade t (target_of z.nodes s) (offer z.nodes t s) t' a → Swept z (s ∷ []) t t' a
    swept_join (Ok false) (l, e) = record { found = (step_keeps z.nodes t s l, e); low = rw e low; kept = rw e refl }
    swept_join (Ok true) (l, h, e) =
        let w = step_wins z.nodes t s l in
        record {
          found = (
            e ∙ sym w,
            total_less t t' (λ c. rw (e, ← w) (step_falls z.nodes t s c)) (target_of z.nodes s)
                (rw (e, get_or-set_same t (target_of z.nodes s) (offer z.nodes t s) 0 (omega (arith, low.long))) l) (count z) inside,
          );
          low = written_low (offer z.nodes t s) h e;
          kept = rw e (drop-set-lt (count z) t (target_of z.nodes s) (offer z.nodes t s) inside);
        }
    swept_join (Err r) (l, h, e, d) = record {
      found = record {
        done = [];
        step = s;
        rest = [];
        split = refl;
        high = high_true z.nodes t s l h;
        is = d;
      };
      low = rw e low;
      kept = rw e refl;
    }

-- a step never wins at its own left side: what it offers is higher
pub left_stays : (t t' : List ℕ) (c l y k r : ℕ) (a : Finding) → get_or t l 0 < EMPTY → StepMade t c (candidate (get_or t l 0) y k r) t' a
    → get_or t' l 0 ≡ get_or t l 0
left_stays t t' c l y k r (Ok false) filled (m, e) = rw e refl
left_stays t t' c l y k r (Err d) filled (m, h, e, q) = rw e refl
left_stays t t' c l y k r (Ok true) filled (m, h, e) = go (ℕ_discrete l c) (candidate_cases (get_or t l 0) y k r)
  where
    v : ℕ
    v = candidate (get_or t l 0) y k r

    go : Dec (l ≡ c) → (v ≡ EMPTY) ⊎ Given (get_or t l 0) y k r v → get_or t' l 0 ≡ get_or t l 0
    go (no q) w = rw e (get_or-set_other t c l v 0 q)
    go (yes q) (inl w) = absurd (omega (arith, rw (← q) at m))
    go (yes q) (inr w) = absurd (omega (arith, rw (← q) at m, w.is, joined_left (height_of (get_or t l 0)) (height_of y)))

-- the cells of a step are in the table
pub record Cells (z : Size) (s : Step) : Type 0 where
  pub target : target_of z.nodes s < count z
  pub left : left_of z.nodes s < count z
  pub right : right_of z.nodes s < count z

pub cells_in : (z : Size) (p : PairRule) (i k j : ℕ) → RuleInside z p.head p.left p.right → i < z.nodes → k < z.nodes → j < z.nodes → Cells z (ask p i k j)
cells_in z p i k j h hi hk hj = record {
  target = cell_in z.nodes z.nonterminals p.head i j h.head hi hj;
  left = cell_in z.nodes z.nonterminals p.left i k h.left hi hk;
  right = cell_in z.nodes z.nonterminals p.right k j h.right hk hj;
}

-- one more step of a row, with its left side read before and its cells found by their place in the row
module _ (z : Size) (p : PairRule) (i k j : ℕ) (t t' : List ℕ) (left to from : ℕ) (h : Cells z (ask p i k j)) (is_to : to ≡ cell z.nodes p.head i 0)
    (is_from : from ≡ cell z.nodes p.right k 0) (filled : left < EMPTY) (stays : get_or t' (cell z.nodes p.left i k) 0 ≡ left) where
  abbrev New : List ℕ → Finding → Type 0
  New t'' b = StepMade t' (to + j) (candidate left (get_or t' (from + j) 0) k p.number) t'' b

  row_step : (t'' : List ℕ) (b : Finding) → LowTable z t' → New t'' b → Swept z (ask p i k j ∷ []) t' t'' b
  unfolding offer
  row_step t'' b low new =
      let et : to + j ≡ target_of z.nodes (ask p i k j) = ap (λ x. x + j) is_to ∙ cell_next z.nodes p.head i j in
      let ef : from + j ≡ right_of z.nodes (ask p i k j) = ap (λ x. x + j) is_from ∙ cell_next z.nodes p.right k j in
      let one : StepMade t' (target_of z.nodes (ask p i k j)) (offer z.nodes t' (ask p i k j)) t'' b = rw (et, ef, ← stays) at new in
      swept_join z p i k j t' t'' low h.target b one

  pub row_more : (t'' : List ℕ) (a b : Finding) → Swept z (row_steps p i k j) t t' a → New t'' b
      → Swept z (row_steps p i k (j + 1)) t t'' (merged a b) × (get_or t'' (cell z.nodes p.left i k) 0 ≡ left)
  row_more t'' a b swept new = (
    swept_next z (λ j. ask p i k j ∷ []) j t t' t'' a b swept (row_step t'' b swept.low new),
    left_stays t' t'' (to + j) (cell z.nodes p.left i k) (get_or t' (from + j) 0) k p.number b (rw stays filled)
        (subst (λ x. StepMade t' (to + j) (candidate x (get_or t' (from + j) 0) k p.number) t'' b) (sym stays) new) ∙ stays,
  )

  pub row_stop : (t'' : List ℕ) (a : Bool) (r : Refusal) → j < z.nodes → Swept z (row_steps p i k j) t t' (Ok a) → New t'' (Err r)
      → Swept z (row_steps p i k z.nodes) t t'' (Err r)
  row_stop t'' a r l swept new = swept_stop z (λ j. ask p i k j ∷ []) j z.nodes t t' t'' a r l swept (row_step t'' (Err r) swept.low new)

-- no step of a row wins where the left side is empty
pub row_idle : (z : Size) (p : PairRule) (i k c : ℕ) (t : List ℕ) → LowTable z t → ((x : ℕ) → get_or t x 0 ≤ EMPTY) → EMPTY ≤ get_or t (cell z.nodes p.left i k) 0
    → Swept z (row_steps p i k c) t t (Ok false)
unfolding offer
row_idle z p i k c t low words empty =
    swept_idle z t low (ask p i k) c (λ j.
    step_keeps z.nodes t (ask p i k j) (rw (candidate_left (get_or t (left_of z.nodes (ask p i k j)) 0) (get_or t (right_of z.nodes (ask p i k j)) 0) k p.number empty) (words _)))

module _ (z : Size) (rules : List ℕ) (r : ℕ) (t t' : List ℕ) where
  -- a label rule has no steps
  pub swept_label : LowTable z t → word rules r 2 ≡ 65535 → Swept z (rule_steps rules z.nodes r) t t (Ok false)
  swept_label low e = rw (eq-eqb (word rules r 2) 65535 e) (swept_none z t low)

  -- the steps of a rule of the list, read as a pair rule
  pub swept_rule : (p : PairRule) (a : Finding) → p.number ≡ r → p.head ≡ word rules r 0 → p.left ≡ word rules r 1 → p.right ≡ word rules r 2
      → (word rules r 2 ≡ 65535 → ⊥) → Swept z (pair_steps p z.nodes z.nodes) t t' a → Swept z (rule_steps rules z.nodes r) t t' a
  unfolding ask_of
  swept_rule p a e h b c d swept = rw (ne_eqb (word rules r 2) 65535 d) (rw (e, h, b, c) at swept)

-- a pair rule of the list is one of nonterminals that there are
pub rule_inside : (z : Size) (rules : List ℕ) (r A B C : ℕ) → RulesInside z rules → r < length rules / 3
    → PairWords (word rules r 0) (word rules r 1) (word rules r 2) A B C → RuleInside z A B C
rule_inside z rules r A B C ok l w =
    let x = ok.pair r (word rules r 0) (word rules r 1) (word rules r 2) (record { inside = l; head = refl; left = refl; right = refl; pair = eqb-false _ _ w.pair }) in
    record { head = rw w.head at x.head; left = rw w.left at x.left; right = rw w.right at x.right }

-- some passes lead from t to t'
pub record Passing (z : Size) (rules t t' : List ℕ) : Type 0 where
  pub passed : ℕ
  pub is : t' ≡ after z.nodes t (passes rules z.nodes passed)
  pub low : LowTable z t'
  pub kept : drop (count z) t' ≡ drop (count z) t

module _ (z : Size) (rules t : List ℕ) where
  pub passing_none : LowTable z t → Passing z rules t t
  passing_none low = record { passed = 0; is = refl; low = low; kept = refl }

  module _ (t' t'' : List ℕ) (p : Passing z rules t t') where
    abbrev next : ℕ
    next = suc p.passed

    -- one more pass, of which the last is still, too high, or moves
    pub passing_still : Swept z (steps_of rules z.nodes) t' t'' (Ok false) → Settled z rules t t'' (Ok tt)
    passing_still s = record {
      passed = p.passed;
      ended = rw s.found.1 (p.is, s.found.0);
      kept = s.kept ∙ p.kept;
    }

    pub passing_high : (r : Refusal) → Swept z (steps_of rules z.nodes) t' t'' (Err r) → Settled z rules t t'' (Err r)
    passing_high r s = record {
      passed = next;
      ended = higher_right z.nodes t (passes rules z.nodes p.passed) (steps_of rules z.nodes) r (rw (← p.is) s.found);
      kept = s.kept ∙ p.kept;
    }

    pub passing_moved : Swept z (steps_of rules z.nodes) t' t'' (Ok true) → Passing z rules t t'' × (total t'' (count z) < total t' (count z))
    passing_moved s = (
      record {
        passed = next;
        is = rw (after-append z.nodes t (passes rules z.nodes p.passed) (steps_of rules z.nodes), ← p.is) s.found.0;
        low = s.low;
        kept = s.kept ∙ p.kept;
      },
      s.found.1,
    )
