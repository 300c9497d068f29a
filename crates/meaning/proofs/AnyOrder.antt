-- What steps in any order do: at every moment, after p passes, and in a table that no step would change; from any sound table that
-- holds its height 1 cells.
-- Assumes nothing.
use mathlib.Core.List.{List}
use mathlib.Core.Path.{◌≡◌}
use mathlib.Core.Logic.{inl, inr}
use Prim.Native.Nat.{ℕ, ◌+◌, ◌≤◌, ◌<◌}
use native.Mathlib.Omega.{arith}
use native.Mathlib.Nat.{le_antisymm}
use native.Mathlib.Decide.{dec_lt}
use lib.ListN.{length, get_or}
use Rattle.key.specs.Keys.{EMPTY, height_of}
use Rattle.meaning.specs.Net.{Net, Sane}
use Rattle.meaning.specs.Trees.{Reach, Least, Tree, height, edges_of, key_of}
use Rattle.meaning.specs.Table.{cell, at, cells, Each, Sound, StartTable, SoundTable, HoldsLeaves}
use Rattle.meaning.specs.Steps.{Step, Possible, target_of, offer, after, after_all, All, Passes, Still}
use Rattle.meaning.specs.Final.{FinalCell, FinalTable}
use Rattle.meaning.proofs.Trees.{reach_tree, tree_reach, tree_inside, key_bounds}
use Rattle.meaning.proofs.Steps.{sound_le, sound_real, real_height, step_in, offer_tree, step_keeps}
use Rattle.meaning.proofs.After.{after_falls, after_sound, after_leaves}
use Rattle.meaning.proofs.Start.{start_sound, start_leaves}
use Rattle.meaning.proofs.Passes.{Within, within_lower, within_all, leaves_within, still_within, passes_sound, passes_within}

-- a table whose every cell is final is sound
pub final_sound : {g : Net} (t : List ℕ) → FinalTable g t → SoundTable g t
final_sound t f = record { long = f.long; cell = λ A i j hA hi hj. (f.cell A i j hA hi hj).real }

-- no sound word is below the final key
pub not_below : {g : Net} {A i j v w : ℕ} → FinalCell g A i j v → Sound g A i j w → v ≤ w
not_below f (inl e) = omega (arith, sound_le f.real)
not_below f (inr r) = omega (arith, r.is, (f.least r.tree).0)

module _ {g : Net} (ok : Sane g) where
  module _ (t : List ℕ) (sound : SoundTable g t) (ss : List Step) (can : All (Possible g) ss) where
    -- at every moment each filled cell has a real path with a tree of the recorded height
    pub sound_always : Each g (λ A i j. at g.nodes (after g.nodes t ss) A i j < EMPTY
        → (p : List ℕ) × Reach g A i j (height_of (at g.nodes (after g.nodes t ss) A i j)) p)
    sound_always A i j hA hi hj f =
        let r = sound_real ((after_sound ok t ss can sound).cell A i j hA hi hj) f in
        (edges_of r.tree, rw (← (real_height ok r)) (tree_reach r.tree))

    -- no key falls below the final one
    pub never_below : {A i j v : ℕ} → A < g.nonterminals → i < g.nodes → j < g.nodes → FinalCell g A i j v
        → v ≤ at g.nodes (after g.nodes t ss) A i j
    never_below hA hi hj f = not_below f ((after_sound ok t ss can sound).cell _ _ _ hA hi hj)

    -- a final cell stays so
    pub stays_final : Each g (λ A i j. FinalCell g A i j (at g.nodes t A i j) → at g.nodes (after g.nodes t ss) A i j ≡ at g.nodes t A i j)
    stays_final A i j hA hi hj f = le_antisymm (after_falls g.nodes t ss (cell g.nodes A i j)) (never_below hA hi hj f)

  -- all trees are within a final table
  pub final_within : (t : List ℕ) → FinalTable g t → (p : ℕ) → Within g p t
  final_within t final p = record {
    tree = λ {A} {i} {j} τ l. let b = tree_inside ok τ in (final.cell A i j b.head b.from b.to).least τ;
  }

  -- and a sound table that all are within is final
  final_of : (t : List ℕ) → SoundTable g t → Within g (cells g + 1) t → FinalTable g t
  final_of t sound w = record {
    long = sound.long;
    cell = λ A i j hA hi hj. record {
      real = sound.cell A i j hA hi hj;
      least = λ τ. (within_all ok t sound w (height τ)).tree τ (omega arith);
    };
  }

  module _ (t : List ℕ) (sound : SoundTable g t) (leaves : HoldsLeaves g t) where
    module _ (pp : List (List Step)) (passes : Passes g pp) where
      within : Within g (1 + length pp) (after_all g.nodes t pp)
      within = passes_within ok 0 t pp passes sound (leaves_within ok t leaves)

      -- after p passes in turn each cell of least height p + 1 or less is final
      pub passes_final : (A i j h : ℕ) → Least g A i j h → h ≤ 1 + length pp → FinalCell g A i j (at g.nodes (after_all g.nodes t pp) A i j)
      passes_final A i j h l few =
          let b = tree_inside ok (reach_tree l.reach).tree in
          record { real = (passes_sound ok t pp passes sound).cell A i j b.head b.from b.to; least = λ τ. low τ (dec_lt (1 + length pp) (height τ)) }
        where
          v : ℕ
          v = at g.nodes (after_all g.nodes t pp) A i j

          -- a tree that is higher than the least has a larger key
          low : (τ : Tree g A i j) → Dec (1 + length pp < height τ) → (v ≤ key_of τ) × (v < EMPTY)
          low τ (yes q) =
              let σ = reach_tree l.reach in
              let u = within.tree σ.tree (omega (arith, σ.tall)) in
              (omega (arith, u.0, σ.tall, (key_bounds ok σ.tree).1, (key_bounds ok τ).0), u.1)
          low τ (no q) = within.tree τ (omega arith)

      -- and stays so
      pub passes_stay : (A i j h : ℕ) → Least g A i j h → h ≤ 1 + length pp → (ss : List Step) → All (Possible g) ss
          → at g.nodes (after g.nodes (after_all g.nodes t pp) ss) A i j ≡ at g.nodes (after_all g.nodes t pp) A i j
      passes_stay A i j h l few ss can =
          let b = tree_inside ok (reach_tree l.reach).tree in
          stays_final (after_all g.nodes t pp) (passes_sound ok t pp passes sound) ss can A i j b.head b.from b.to (passes_final A i j h l few)

      -- as many passes as there are cells are enough
      pub passes_enough : cells g ≤ length pp → FinalTable g (after_all g.nodes t pp)
      passes_enough many =
          final_of (after_all g.nodes t pp) (passes_sound ok t pp passes sound) (within_lower (omega arith) within)

    -- a table that no step would change is final
    pub still_final : Still g t → FinalTable g t
    still_final still =
        final_of t sound (within_lower (omega arith) (still_within ok t sound.long (leaves_within ok t leaves) still (cells g) (omega arith)))

  -- so is one that steps from the start have reached
  pub start_final : (t : List ℕ) → StartTable g t → (ss : List Step) → All (Possible g) ss → Still g (after g.nodes t ss)
      → FinalTable g (after g.nodes t ss)
  start_final t start ss can =
      still_final (after g.nodes t ss) (after_sound ok t ss can (start_sound ok t start)) (after_leaves t ss (start_leaves ok t start))

  -- and the other way round
  pub final_still : (t : List ℕ) → FinalTable g t → Still g t
  final_still t final = record { step = λ s can. step_keeps g.nodes t s (kept s can (dec_lt (offer g.nodes t s) EMPTY)) }
    where
      kept : (s : Step) → Possible g s → Dec (offer g.nodes t s < EMPTY) → get_or t (target_of g.nodes s) 0 ≤ offer g.nodes t s
      kept s can (yes l) =
          let o = offer_tree ok s can t (final_sound t final) l in
          omega (arith, o.is, ((final.cell _ _ _ (step_in ok s can).head can.from can.to).least o.tree).0)
      kept s can (no l) = omega (arith, sound_le (final.cell _ _ _ (step_in ok s can).head can.from can.to).real)
