-- What a step does to each word, and that it keeps a table sound and its heights low. Assumes nothing.
use mathlib.Core.Path.{◌≡◌, sym, ap₂}
use mathlib.Core.List.{List}
use mathlib.Core.Logic.{◌≢◌, ◌⊎◌, inl, inr}
use mathlib.Core.Bool.{false}
use Prim.Native.Nat.{ℕ, ◌≤◌, ◌<◌, min}
use native.Mathlib.Omega.{arith}
use native.Mathlib.Decide.{ℕ_discrete, dec_lt}
use lib.ListN.{length, get_or, set, length-set}
use lib.Seq.{get_or-set_same, get_or-set_other, set-get_or, set_out}
use borrow.Author.Tests.{ltb-false}
use Rattle.key.specs.Keys.{EMPTY, height_of}
use Rattle.meaning.specs.Net.{Net, Sane, InPair}
use Rattle.meaning.specs.Trees.{joined, Tree, pair, height, key_of}
use Rattle.meaning.specs.Table.{cell, at, cells, Each, Real, Sound, SoundTable, filled, High}
use Rattle.meaning.specs.Steps.{Step, Possible, candidate, target_of, left_of, right_of, offer, step, wins}
use Rattle.meaning.proofs.Joined.{joined_next}
use Rattle.meaning.proofs.Trees.{key_height}
use Rattle.meaning.proofs.Cells.{cell_same, cell_in, Given, candidate_cases}
use Rattle.meaning.proofs.Sums.{filled_falls, filled_more}

module _ (n : ℕ) (t : List ℕ) (s : Step) where
  pub step_length : length (step n t s) ≡ length t
  unfolding step
  step_length = length-set t _ _

  -- no other word moves
  pub step_other : (c : ℕ) → c ≢ target_of n s → get_or (step n t s) c 0 ≡ get_or t c 0
  unfolding step
  step_other c h = get_or-set_other t (target_of n s) c _ 0 h

  pub step_target : target_of n s < length t → get_or (step n t s) (target_of n s) 0 ≡ min (get_or t (target_of n s) 0) (offer n t s)
  unfolding step
  step_target h = get_or-set_same t (target_of n s) _ 0 h

  -- a smaller candidate is written
  pub step_wins : offer n t s < get_or t (target_of n s) 0 → step n t s ≡ set t (target_of n s) (offer n t s)
  unfolding step
  step_wins l = let e : min (get_or t (target_of n s) 0) (offer n t s) ≡ offer n t s = omega arith in rw e

  -- otherwise nothing moves
  pub step_keeps : get_or t (target_of n s) 0 ≤ offer n t s → step n t s ≡ t
  unfolding step
  step_keeps l =
      let e : min (get_or t (target_of n s) 0) (offer n t s) ≡ get_or t (target_of n s) 0 = omega arith in
      rw e (set-get_or t (target_of n s) 0)

  pub wins_false : wins n t s ≡ false → get_or t (target_of n s) 0 ≤ offer n t s
  unfolding wins
  wins_false e = ltb-false _ _ e

  step_out : length t ≤ target_of n s → step n t s ≡ t
  unfolding step
  step_out l = set_out t (target_of n s) _ l

  -- words only fall
  pub step_falls : (c : ℕ) → get_or (step n t s) c 0 ≤ get_or t c 0
  step_falls c = go (ℕ_discrete c (target_of n s)) (dec_lt (target_of n s) (length t))
    where
      go : Dec (c ≡ target_of n s) → Dec (target_of n s < length t) → get_or (step n t s) c 0 ≤ get_or t c 0
      go (yes e) (yes l) = rw e (omega (arith, step_target l))
      go (yes e) (no l) = let q : length t ≤ target_of n s = omega arith in rw (step_out q) (omega arith)
      go (no e) l = omega (arith, step_other c e)

module _ {g : Net} {A i j v : ℕ} where
  pub sound_le : Sound g A i j v → v ≤ EMPTY
  sound_le (inl e) = omega arith
  sound_le (inr r) = omega (arith, r.low)

  pub sound_real : Sound g A i j v → v < EMPTY → Real g A i j v
  sound_real (inl e) h = absurd (omega arith)
  sound_real (inr r) h = r

  pub real_height : Sane g → (r : Real g A i j v) → height r.tree ≡ height_of v
  real_height ok r = sym (rw (← r.is) at (key_height ok r.tree))

-- the cell that a step wins, and what it then holds
pub record Won (n : ℕ) (t : List ℕ) (s : Step) (A i j : ℕ) : Type 0 where
  pub head : A ≡ s.head
  pub from : i ≡ s.from
  pub to : j ≡ s.to
  pub less : offer n t s < at n t A i j
  pub now : at n (step n t s) A i j ≡ offer n t s

-- the tree that an offer is the key of
pub record Offered (g : Net) (t : List ℕ) (s : Step) : Type 0 where
  pub left : get_or t (left_of g.nodes s) 0 < EMPTY
  pub right : get_or t (right_of g.nodes s) 0 < EMPTY
  pub tree : Tree g s.head s.from s.to
  pub tall : height tree ≡ joined (height_of (get_or t (left_of g.nodes s) 0)) (height_of (get_or t (right_of g.nodes s) 0))
  pub is : offer g.nodes t s ≡ key_of tree

module _ {g : Net} (ok : Sane g) (s : Step) (can : Possible g s) where
  pub step_in : InPair g s.rule s.head s.left s.right
  step_in = ok.pairs _ _ _ _ can.rule

  pub target_in : target_of g.nodes s < cells g
  target_in = cell_in g.nodes g.nonterminals s.head s.from s.to step_in.head can.from can.to

  pub step_cases : (t : List ℕ) → cells g ≤ length t → (A i j : ℕ) → i < g.nodes → j < g.nodes
      → (at g.nodes (step g.nodes t s) A i j ≡ at g.nodes t A i j) ⊎ Won g.nodes t s A i j
  step_cases t long A i j hi hj = go (ℕ_discrete (cell n A i j) (target_of n s)) (dec_lt (offer n t s) (at n t A i j))
    where
      n : ℕ
      n = g.nodes

      now : get_or (step n t s) (target_of n s) 0 ≡ min (get_or t (target_of n s) 0) (offer n t s)
      now = step_target n t s (omega (arith, target_in))

      go : Dec (cell n A i j ≡ target_of n s) → Dec (offer n t s < at n t A i j) → (at n (step n t s) A i j ≡ at n t A i j) ⊎ Won n t s A i j
      go (yes e) (yes l) =
          let c = cell_same n A s.head i s.from j s.to hi can.from hj can.to e in
          inr (record { head = c.0; from = c.1; to = c.2; less = l; now = rw e (omega (arith, now, rw e at l)) })
      go (yes e) (no l) = inl (rw e (omega (arith, now, rw e at l)))
      go (no e) l = inl (step_other n t s _ e)

  pub offer_tree : (t : List ℕ) → SoundTable g t → offer g.nodes t s < EMPTY → Offered g t s
  unfolding offer
  offer_tree t sound l = go (candidate_cases x y s.middle s.rule)
    where
      x : ℕ
      x = get_or t (left_of g.nodes s) 0

      y : ℕ
      y = get_or t (right_of g.nodes s) 0

      go : (candidate x y s.middle s.rule ≡ EMPTY) ⊎ Given x y s.middle s.rule (candidate x y s.middle s.rule) → Offered g t s
      go (inl e) = absurd (omega arith)
      go (inr c) =
          let u = sound_real (sound.cell _ _ _ step_in.left can.from can.middle) c.left in
          let v = sound_real (sound.cell _ _ _ step_in.right can.middle can.to) c.right in
          let tall : joined (height u.tree) (height v.tree) ≡ joined (height_of x) (height_of y) =
          ap₂ joined (real_height ok u) (real_height ok v) in
          record {
            left = c.left;
            right = c.right;
            tree = pair s.rule s.middle can.rule u.tree v.tree;
            tall = tall;
            is = rw tall c.is;
          }

  pub step_sound : (t : List ℕ) → SoundTable g t → SoundTable g (step g.nodes t s)
  step_sound t sound = record { long = rw (step_length g.nodes t s) sound.long; cell = keeps }
    where
      keeps : Each g (λ A i j. Sound g A i j (at g.nodes (step g.nodes t s) A i j))
      keeps A i j hA hi hj = go (step_cases t sound.long A i j hi hj)
        where
          go : (at g.nodes (step g.nodes t s) A i j ≡ at g.nodes t A i j) ⊎ Won g.nodes t s A i j
              → Sound g A i j (at g.nodes (step g.nodes t s) A i j)
          go (inl e) = rw e (sound.cell A i j hA hi hj)
          go (inr w) =
              let l : offer g.nodes t s < EMPTY = omega (arith, w.less, sound_le (sound.cell A i j hA hi hj)) in
              let o = offer_tree t sound l in
              rw (w.now, w.head, w.from, w.to) (inr (record { tree = o.tree; is = o.is; low = l }))

  -- no height exceeds the number of filled cells: a cell that is newly filled counts, one that is improved does not rise
  pub step_high : (t : List ℕ) → SoundTable g t → High g t → High g (step g.nodes t s)
  step_high t sound high = record { cell = keeps }
    where
      t' : List ℕ
      t' = step g.nodes t s

      more : filled t (cells g) ≤ filled t' (cells g)
      more = filled_falls t t' (step_falls g.nodes t s) (cells g)

      keeps : Each g (λ A i j. at g.nodes t' A i j < EMPTY → height_of (at g.nodes t' A i j) ≤ filled t' (cells g))
      keeps A i j hA hi hj f = go (step_cases t sound.long A i j hi hj) (dec_lt (at g.nodes t A i j) EMPTY)
        where
          go : (at g.nodes t' A i j ≡ at g.nodes t A i j) ⊎ Won g.nodes t s A i j → Dec (at g.nodes t A i j < EMPTY)
              → height_of (at g.nodes t' A i j) ≤ filled t' (cells g)
          go (inl e) (yes q) = rw e (omega (arith, more, high.cell A i j hA hi hj q))
          go (inl e) (no q) = absurd (q (rw e at f))
          go (inr w) (yes q) = rw w.now (omega (arith, more, w.less, high.cell A i j hA hi hj q))
          go (inr w) (no q) =
              let l : offer g.nodes t s < EMPTY = rw w.now at f in
              let o = offer_tree t sound l in
              let a = high.cell _ _ _ step_in.left can.from can.middle o.left in
              let b = high.cell _ _ _ step_in.right can.middle can.to o.right in
              let top = joined_next _ _ (filled t (cells g)) a b in
              let z =
              filled_more t t' (step_falls g.nodes t s) (cell g.nodes A i j) (omega arith) f (cells g)
              (cell_in g.nodes g.nonterminals A i j hA hi hj) in
              rw (w.now, o.is, key_height ok o.tree, o.tall) (omega (arith, top, z))
