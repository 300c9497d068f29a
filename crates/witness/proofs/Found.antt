-- The search for the lowest edge. Assumes nothing.
use mathlib.Core.Path.{◌≡◌, refl, sym, ◌∙◌}
use mathlib.Core.Bool.{true, false}
use mathlib.Core.List.{List, [], ◌∷◌}
use mathlib.Core.Logic.{◌⊎◌, inl, inr, ⊎_elim}
use Prim.Native.Nat.{ℕ, ◌/◌, ◌≤◌, ◌<◌}
use native.Mathlib.Nat.{le_refl}
use native.Mathlib.Omega.{arith}
use lib.ListN.{length, set}
use lib.Dec.{ltb}
use borrow.Author.Tests.{lt-ltb, le-ltb, ltb-true, ltb-false}
use borrow.Table.Steps.{cases}
use Rattle.std.specs.Prelude.{Option, Some, None, is_some}
use Rattle.words.proofs.First.{first_at}
use Rattle.meaning.specs.Computed.{is_edge, lowest_edge}
use Rattle.words.specs.Tab.{over}
use Rattle.witness.specs.Walks.{found_edge, WordsWritten}

set-over : (l : List ℕ) (v : ℕ) → 0 < length l → set l 0 v ≡ over (v ∷ []) l
unfolding over
set-over [] v h = absurd (omega arith)
set-over (x ∷ l) v h = refl

module _ (edges : List ℕ) (i x j : ℕ) where
  pub found_at : (e : ℕ) → e < length edges / 3 → ((k : ℕ) → k < e → is_edge edges i x j k ≡ false) → is_edge edges i x j e ≡ true
      → Some e ≡ found_edge edges i x j
  unfolding found_edge lowest_edge
  found_at e h none here =
      rw (first_at (is_edge edges i x j) (length edges / 3) e (omega arith) none (λ _. here), lt-ltb _ _ h)

  pub found_none : ((k : ℕ) → k < length edges / 3 → is_edge edges i x j k ≡ false) → None ≡ found_edge edges i x j
  unfolding found_edge lowest_edge
  found_none none =
      rw (first_at (is_edge edges i x j) (length edges / 3) (length edges / 3) (le_refl _) none (λ h. absurd (omega arith)), le-ltb _ _ (le_refl _))

  pub found_some : is_some (found_edge edges i x j) ≡ ltb (lowest_edge edges i x j) (length edges / 3)
  unfolding found_edge
  found_some = cases (ltb (lowest_edge edges i x j) (length edges / 3)) (λ t. rw t) (λ n. rw n)

  found_cases : {f : Option ℕ} → f ≡ found_edge edges i x j
      → ((f ≡ Some (lowest_edge edges i x j)) × (lowest_edge edges i x j < length edges / 3)) ⊎ ((f ≡ None) × (length edges / 3 ≤ lowest_edge edges i x j))
  unfolding found_edge
  found_cases {f} q =
      cases (ltb (lowest_edge edges i x j) (length edges / 3))
      (λ t. inl (q ∙ rw t, ltb-true _ _ t))
      (λ n. inr (q ∙ rw n, ltb-false _ _ n))

  module _ {e : ℕ} (q : Some e ≡ found_edge edges i x j) where
    pub found_is : (lowest_edge edges i x j ≡ e) × (e < length edges / 3)
    found_is = ⊎_elim
        (λ h. let s : e ≡ lowest_edge edges i x j = cc in (sym s, rw s h.1))
        (λ h. absurd (let z : ◌≡◌ {A = ℕ} 0 1 = cc in omega arith))
        (found_cases q)

    pub found_inside : e < length edges / 3
    found_inside = found_is.1

    pub found_written : {l : List ℕ} → 0 < length l → WordsWritten (lowest_edge edges i x j ∷ []) l (set l 0 e) 1
    found_written h = rw found_is.0 (record { count = refl; words = set-over _ _ h })

  pub found_never : None ≡ found_edge edges i x j → lowest_edge edges i x j < length edges / 3 → ⊥
  found_never q h =
      let past : length edges / 3 ≤ lowest_edge edges i x j =
      ⊎_elim (λ h. absurd (let z : ◌≡◌ {A = ℕ} 0 1 = cc in omega arith)) (λ h. h.1) (found_cases q) in
      omega (arith, past)
