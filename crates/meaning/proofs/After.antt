-- Sequences of steps: no word rises, what one possible step keeps all keep, and the total falls where one changes the table.
-- Assumes nothing.
use mathlib.Core.Path.{◌≡◌, refl, sym, ◌∙◌}
use mathlib.Core.List.{List, [], ◌∷◌, ◌++◌, flatten}
use mathlib.Core.Bool.{Bool, true, false}
use Prim.Native.Nat.{ℕ, zero, suc, ◌≤◌, ◌<◌}
use native.Mathlib.Omega.{arith}
use native.Mathlib.Nat.{le_refl}
use lib.ListN.{length, get_or}
use Rattle.meaning.specs.Net.{Net, Sane}
use Rattle.meaning.specs.Table.{cell, SoundTable, HoldsLeaves, High}
use Rattle.meaning.specs.Steps.{Step, Possible, step, wins, after, after_all, All}
use Rattle.meaning.specs.Passes.{each, changes}
use Rattle.meaning.proofs.Steps.{step_length, step_falls, step_keeps, wins_false, step_sound, step_high}

module _ (P : Step → Type 0) where
  pub all_append : (ss ss' : List Step) → All P ss → All P ss' → All P (ss ++ ss')
  all_append [] ss' a b = b
  all_append (s ∷ ss) ss' a b = (a.0, all_append ss ss' a.1 b)

  pub all_each : (f : ℕ → List Step) (c : ℕ) → ((x : ℕ) → x < c → All P (f x)) → All P (each c f)
  all_each f zero h = tt
  all_each f (suc c) h = all_append (each c f) (f c) (all_each f c (λ x l. h x (omega arith))) (h c (omega arith))

module _ (n : ℕ) where
  pub after-append : (t : List ℕ) (ss ss' : List Step) → after n t (ss ++ ss') ≡ after n (after n t ss) ss'
  after-append t [] ss' = refl
  after-append t (s ∷ ss) ss' = after-append (step n t s) ss ss'

  -- several stretches in turn are their steps in turn
  pub after_all_lem : (t : List ℕ) (pp : List (List Step)) → after_all n t pp ≡ after n t (flatten pp)
  unfolding flatten
  after_all_lem t [] = refl
  after_all_lem t (ss ∷ pp) = after_all_lem (after n t ss) pp ∙ sym (after-append t ss (flatten pp))

  pub after-length : (t : List ℕ) (ss : List Step) → length (after n t ss) ≡ length t
  after-length t [] = refl
  after-length t (s ∷ ss) = after-length (step n t s) ss ∙ step_length n t s

  -- no word rises
  pub after_falls : (t : List ℕ) (ss : List Step) (c : ℕ) → get_or (after n t ss) c 0 ≤ get_or t c 0
  after_falls t [] c = le_refl _
  after_falls t (s ∷ ss) c = omega (arith, after_falls (step n t s) ss c, step_falls n t s c)

  -- where no step changes the table, it is as it was
  pub changes_none : (t : List ℕ) (ss : List Step) → changes n t ss ≡ false → after n t ss ≡ t
  changes_none t [] e = refl
  changes_none t (s ∷ ss) e = go (wins n t s) refl (changes_none (step n t s) ss)
    where
      go : (b : Bool) → wins n t s ≡ b → (changes n (step n t s) ss ≡ false → after n (step n t s) ss ≡ step n t s) → after n (step n t s) ss ≡ t
      go true w ih = let z : ◌≡◌ {A = ℕ} 0 1 = cc in absurd (omega arith)
      go false w ih = ih (rw w at e) ∙ step_keeps n t s (wins_false n t s w)

module _ {g : Net} (ok : Sane g) where
  pub after_sound : (t : List ℕ) (ss : List Step) → All (Possible g) ss → SoundTable g t → SoundTable g (after g.nodes t ss)
  after_sound t [] can sound = sound
  after_sound t (s ∷ ss) can sound = after_sound (step g.nodes t s) ss can.1 (step_sound ok s can.0 t sound)

  pub after_high : (t : List ℕ) (ss : List Step) → All (Possible g) ss → SoundTable g t → High g t → High g (after g.nodes t ss)
  after_high t [] can sound high = high
  after_high t (s ∷ ss) can sound high =
      after_high (step g.nodes t s) ss can.1 (step_sound ok s can.0 t sound) (step_high ok s can.0 t sound high)

pub after_leaves : {g : Net} (t : List ℕ) (ss : List Step) → HoldsLeaves g t → HoldsLeaves g (after g.nodes t ss)
after_leaves {g} t ss holds = record {
  cell = λ A i j κ y.
      let h = holds.cell A i j κ y in
      let l = after_falls g.nodes t ss (cell g.nodes A i j) in
      (omega arith, omega arith);
}
