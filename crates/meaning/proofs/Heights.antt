-- No height exceeds the number of filled cells, nor 131,072: from the start on no possible step is refused. Assumes nothing.
use mathlib.Core.Path.{◌≡◌, refl}
use mathlib.Core.List.{List}
use mathlib.Core.Logic.{inl, inr}
use mathlib.Core.Bool.{Bool, true, false, ◌&&◌, ◌||◌}
use Prim.Native.Nat.{ℕ, ◌+◌, ◌≤◌, ◌<◌}
use native.Mathlib.Omega.{arith}
use lib.ListN.{get_or}
use lib.Dec.{eqb, ltb}
use borrow.Author.Tests.{eq-eqb, le-leb, lt-ltb, le-ltb, ltb-true}
use Rattle.key.specs.Keys.{EMPTY, HIGHEST, height_of, middle_of, rule_of}
use Rattle.meaning.specs.Net.{Net, Sane}
use Rattle.meaning.specs.Table.{at, cells, Each, StartTable, Sound, SoundTable, High}
use Rattle.meaning.specs.Steps.{Step, Possible, target_of, offer, step, wins, usable, too_high, Accepted, after, All}
use Rattle.meaning.specs.Final.{FinalTable}
use Rattle.meaning.proofs.Trees.{height_pos, key_height, key_middle, key_rule}
use Rattle.meaning.proofs.Cells.{cells_few}
use Rattle.meaning.proofs.Sums.{filled_few}
use Rattle.meaning.proofs.Steps.{sound_le, sound_real, step_in, step_target, target_in, step_high}
use Rattle.meaning.proofs.After.{after_sound, after_high}
use Rattle.meaning.proofs.Passes.{within_low}
use Rattle.meaning.proofs.AnyOrder.{final_sound, final_within}
use Rattle.meaning.proofs.Start.{start_sound, start_high}

usable_empty : (n rules v : ℕ) → v ≡ EMPTY → usable n rules v ≡ true
unfolding usable
usable_empty n rules v e = rw (eq-eqb v EMPTY e)

usable_key : (n rules v : ℕ) → 1 ≤ height_of v → height_of v ≤ HIGHEST → middle_of v < n → rule_of v < rules → usable n rules v ≡ true
unfolding usable
usable_key n rules v pos few low in_rules =
    rw (le-leb 1 (height_of v) pos, le-leb (height_of v) HIGHEST few, lt-ltb (middle_of v) n low, lt-ltb (rule_of v) rules in_rules) (go (eqb v EMPTY))
  where
    go : (b : Bool) → (b || true) ≡ true
    go true = refl
    go false = refl

module _ {g : Net} (ok : Sane g) where
  -- heights never exceed 131,072
  pub high_few : (t : List ℕ) → High g t → Each g (λ A i j. at g.nodes t A i j < EMPTY → height_of (at g.nodes t A i j) ≤ HIGHEST)
  high_few t high A i j hA hi hj f = omega (arith, high.cell A i j hA hi hj f, filled_few t (cells g), cells_few ok)

  -- nor in a final table, whoever made it
  pub final_few : (t : List ℕ) → FinalTable g t → Each g (λ A i j. at g.nodes t A i j < EMPTY → height_of (at g.nodes t A i j) ≤ HIGHEST)
  final_few t final A i j hA hi hj f =
      let sound = final_sound t final in
      let r = sound_real (sound.cell A i j hA hi hj) f in
      omega (arith, within_low ok t sound (final_within ok t final (cells g + 1)) r.tree, cells_few ok)

  -- every cell is one that a step takes
  pub usable_cell : (t : List ℕ) → SoundTable g t → High g t → Each g (λ A i j. usable g.nodes g.rules (at g.nodes t A i j) ≡ true)
  usable_cell t sound high A i j hA hi hj = go (sound.cell A i j hA hi hj)
    where
      go : Sound g A i j (at g.nodes t A i j) → usable g.nodes g.rules (at g.nodes t A i j) ≡ true
      go (inl e) = usable_empty g.nodes g.rules _ e
      go (inr r) =
          usable_key g.nodes g.rules _
          (rw r.is (omega (arith, key_height ok r.tree, height_pos r.tree)))
          (high_few t high A i j hA hi hj r.low)
          (rw r.is (key_middle ok r.tree))
          (rw r.is (key_rule ok r.tree))

  module _ (t : List ℕ) (sound : SoundTable g t) (high : High g t) (s : Step) (can : Possible g s) where
    low_offer : offer g.nodes t s < get_or t (target_of g.nodes s) 0 → height_of (offer g.nodes t s) ≤ HIGHEST
    low_offer l =
        let hA = (step_in ok s can).head in
        let now = step_target g.nodes t s (omega (arith, target_in ok s can, sound.long)) in
        let d : get_or (step g.nodes t s) (target_of g.nodes s) 0 ≡ offer g.nodes t s = omega arith in
        let f = sound_le (sound.cell _ _ _ hA can.from can.to) in
        rw d at (high_few (step g.nodes t s) (step_high ok s can t sound high) _ _ _ hA can.from can.to (omega arith))

    never_high : too_high g.nodes t s ≡ false
    unfolding too_high wins
    never_high = go (ltb (offer g.nodes t s) (get_or t (target_of g.nodes s) 0)) refl
      where
        go : (b : Bool) → ltb (offer g.nodes t s) (get_or t (target_of g.nodes s) 0) ≡ b → (b && ltb HIGHEST (height_of (offer g.nodes t s))) ≡ false
        go true e = le-ltb HIGHEST (height_of (offer g.nodes t s)) (low_offer (ltb-true _ _ e))
        go false e = refl

    -- a step on a sound table whose heights are low is not refused
    pub accepted : Accepted g t s
    accepted =
        let b = step_in ok s can in
        record {
          target = usable_cell t sound high _ _ _ b.head can.from can.to;
          left = usable_cell t sound high _ _ _ b.left can.from can.middle;
          right = usable_cell t sound high _ _ _ b.right can.middle can.to;
          low = never_high;
        }

  module _ (t : List ℕ) (start : StartTable g t) (ss : List Step) (can : All (Possible g) ss) where
    -- in any order of steps from the start, no height exceeds the number of filled cells
    pub high_always : High g (after g.nodes t ss)
    high_always = after_high ok t ss can (start_sound ok t start) (start_high ok t start)

    -- so from the start on no possible step is refused
    pub accepted_always : (s : Step) → Possible g s → Accepted g (after g.nodes t ss) s
    accepted_always = accepted (after g.nodes t ss) (after_sound ok t ss can (start_sound ok t start)) high_always
