-- Which trees a number of passes, or a still table, has taken in. Assumes nothing.
use mathlib.Core.Path.{◌≡◌, refl}
use mathlib.Core.List.Memᴰ
use mathlib.Core.List.{List, [], ◌∷◌, Memᴰ}
use mathlib.Core.Logic.{◌⊎◌, inl, inr}
use Prim.Native.Nat.{ℕ, zero, suc, ◌+◌, ◌-◌, ◌≤◌, ◌<◌}
use native.Mathlib.Omega.{arith}
use native.Mathlib.Decide.{dec_lt}
use lib.ListN.{length, get_or}
use Rattle.key.specs.Keys.{EMPTY, key, height_of}
use Rattle.meaning.specs.Net.{Net, Sane}
use Rattle.meaning.specs.Trees.{Tree, leaf, pair, height, key_of}
use Rattle.meaning.specs.Table.{cell, at, cells, SoundTable, HoldsLeaves}
use Rattle.meaning.specs.Steps.{Step, Possible, target_of, offer, step, after, after_all, Pass, Passes, Still}
use Rattle.meaning.proofs.Joined.{joined_left, joined_right, joined_mono, joined_next}
use Rattle.meaning.proofs.Trees.{tree_inside, height_pos, key_bounds}
use Rattle.meaning.proofs.Cells.{cell_in, cells_few, candidate_filled}
use Rattle.meaning.proofs.Gap.{Gap, gap}
use Rattle.meaning.proofs.Steps.{step_length, step_falls, step_target, target_in, sound_real, real_height}
use Rattle.meaning.proofs.After.{after_falls, after_sound}

-- each tree of height at most p has its cell filled, with no larger key
pub record Within (g : Net) (p : ℕ) (t : List ℕ) : Type 0 where
  pub tree : {A i j : ℕ} (τ : Tree g A i j) → height τ ≤ p → (at g.nodes t A i j ≤ key_of τ) × (at g.nodes t A i j < EMPTY)

pub within_falls : {g : Net} {p : ℕ} (t t' : List ℕ) → ((c : ℕ) → get_or t' c 0 ≤ get_or t c 0) → Within g p t → Within g p t'
within_falls {g} t t' f w = record {
  tree = λ {A} {i} {j} τ l. let u = w.tree τ l in let v = f (cell g.nodes A i j) in (omega arith, omega arith);
}

pub within_lower : {g : Net} {p q : ℕ} {t : List ℕ} → p ≤ q → Within g q t → Within g p t
within_lower l w = record { tree = λ τ h. w.tree τ (omega arith) }

-- the step that a tree's root asks for
abbrev asks : ℕ → ℕ → ℕ → ℕ → ℕ → ℕ → ℕ → Step
asks r A B C i k j = record { rule = r; head = A; left = B; right = C; from = i; middle = k; to = j }

module _ {g : Net} (ok : Sane g) where
  -- a side that a tree reaches is filled, with no larger height
  side : {p : ℕ} (t : List ℕ) → Within g p t → {A i j : ℕ} (τ : Tree g A i j) → height τ ≤ p
      → (at g.nodes t A i j < EMPTY) × (height_of (at g.nodes t A i j) ≤ height τ)
  side t w τ l = let u = w.tree τ l in (u.1, omega (arith, u.0, (key_bounds ok τ).1))

  asks_possible : {r k A B C i j : ℕ} → g.Pair r A B C → Tree g B i k → Tree g C k j → Possible g (asks r A B C i k j)
  asks_possible l s u = let x = tree_inside ok s in let y = tree_inside ok u in record { rule = l; from = x.from; middle = x.to; to = y.to }

  -- what it is offered is no more than the tree's own key
  offer_le : {p : ℕ} (t : List ℕ) → Within g p t → {r k A B C i j : ℕ} (l : g.Pair r A B C) (s : Tree g B i k) (u : Tree g C k j)
      → height s ≤ p → height u ≤ p → offer g.nodes t (asks r A B C i k j) ≤ key_of (pair r k l s u)
  unfolding offer
  offer_le t w {r} {k} l s u hs hu =
      let x = side t w s hs in
      let y = side t w u hu in
      rw (candidate_filled _ _ k r x.0 y.0) (omega (arith, joined_mono _ _ _ _ x.1 y.1))

  -- a word is no more than what its step was offered at any moment
  fallen : (p K : ℕ) (s : Step) → ((t : List ℕ) → Within g p t → offer g.nodes t s ≤ K) → (t : List ℕ) (ss : List Step)
      → target_of g.nodes s < length t → Within g p t → Memᴰ s ss → get_or (after g.nodes t ss) (target_of g.nodes s) 0 ≤ K
  fallen p K s le t [] l w m = absurd (Memᴰ.not-nil m)
  fallen p K s le t (x ∷ ss) l w m = go (fallen p K s le t' ss (rw (step_length n t x) l) w') (Memᴰ.cases_cons m)
    where
      n : ℕ
      n = g.nodes

      t' : List ℕ
      t' = step n t x

      w' : Within g p t'
      w' = within_falls t t' (step_falls n t x) w

      go : (Memᴰ s ss → get_or (after n t' ss) (target_of n s) 0 ≤ K) → (s ≡ x) ⊎ Memᴰ s ss → get_or (after n t' ss) (target_of n s) 0 ≤ K
      go ih (inl e) =
          let o : get_or t' (target_of n s) 0 ≤ K = rw (← e) (omega (arith, step_target n t s l, le t w)) in
          omega (arith, after_falls n t' ss (target_of n s))
      go ih (inr q) = ih q

  pub key_low : {A i j : ℕ} (τ : Tree g A i j) → height τ ≤ cells g + 1 → key_of τ < EMPTY
  key_low τ l = omega (arith, (key_bounds ok τ).1, cells_few ok)

  -- trees of every height are within once those of a height up to one more than the number of cells are:
  -- a height that no cell has bounds the height of each cell that a tree reaches
  module _ (t : List ℕ) (sound : SoundTable g t) (w : Within g (cells g + 1) t) where
    under : (c : Gap (λ a. height_of (get_or t a 0)) (cells g)) → {A i j : ℕ} (τ : Tree g A i j) → height τ ≤ c.level
        → (at g.nodes t A i j < EMPTY) × (height_of (at g.nodes t A i j) < c.level)
    under c {A} {i} {j} τ l =
        let x = side t w τ (omega (arith, c.few)) in
        let b = tree_inside ok τ in
        let f = c.free (cell g.nodes A i j) (cell_in g.nodes g.nonterminals A i j b.head b.from b.to) in
        (x.0, omega arith)

    all_under : (c : Gap (λ a. height_of (get_or t a 0)) (cells g)) → {A i j : ℕ} → Tree g A i j
        → (at g.nodes t A i j < EMPTY) × (height_of (at g.nodes t A i j) < c.level)
    all_under c (leaf r e l d) = under c (leaf r e l d) c.pos
    all_under c (pair {A} {B} {C} {i} {j} r k l s u) =
        let bs = tree_inside ok s in
        let bu = tree_inside ok u in
        let x = all_under c s in
        let y = all_under c u in
        let a = sound_real (sound.cell B i k bs.head bs.from bs.to) x.0 in
        let b = sound_real (sound.cell C k j bu.head bu.from bu.to) y.0 in
        let la : height a.tree ≤ c.level - 1 = omega (arith, real_height ok a, x.1) in
        let lb : height b.tree ≤ c.level - 1 = omega (arith, real_height ok b, y.1) in
        under c (pair r k l a.tree b.tree) (omega (arith, c.pos, joined_next _ _ _ la lb))

    -- so no cell that a tree reaches is higher than the number of cells
    pub within_low : {A i j : ℕ} → Tree g A i j → height_of (at g.nodes t A i j) ≤ cells g
    within_low τ = let c = gap (λ a. height_of (get_or t a 0)) (cells g) in omega (arith, (all_under c τ).1, c.few)

    pub within_all : (p : ℕ) → Within g p t
    within_all p = record { tree = λ {A} {i} {j} τ l. holds τ (dec_lt (cells g + 1) (height τ)) }
      where
        holds : {A i j : ℕ} (τ : Tree g A i j) → Dec (cells g + 1 < height τ) → (at g.nodes t A i j ≤ key_of τ) × (at g.nodes t A i j < EMPTY)
        holds τ (yes h) =
            let c = gap (λ a. height_of (get_or t a 0)) (cells g) in
            let u = all_under c τ in
            (omega (arith, u.1, c.few, (key_bounds ok τ).0), u.0)
        holds τ (no h) = w.tree τ (omega arith)

  -- a table that holds its height 1 cells
  pub leaves_within : (t : List ℕ) → HoldsLeaves g t → Within g 1 t
  leaves_within t holds = record { tree = one }
    where
      one : {A i j : ℕ} (τ : Tree g A i j) → height τ ≤ 1 → (at g.nodes t A i j ≤ key_of τ) × (at g.nodes t A i j < EMPTY)
      one {A} {i} {j} (leaf {x} r e l d) h = holds.cell A i j (key 1 i r) (record { r = r; x = x; e = e; rule = l; edge = d; is = refl })
      one (pair r k l s u) h = absurd (omega (arith, height_pos s, joined_left (height s) (height u)))

  -- a table takes in the trees of one more height by having, for each pair of trees, no more than their key
  taken_in : (p : ℕ) (t : List ℕ) → p ≤ cells g → Within g 1 t
      → ((r k A B C i j : ℕ) (l : g.Pair r A B C) (s : Tree g B i k) (u : Tree g C k j) → height s ≤ p → height u ≤ p
      → at g.nodes t A i j ≤ key_of (pair r k l s u))
      → Within g (suc p) t
  taken_in p t few w le = record { tree = one }
    where
      one : {A i j : ℕ} (τ : Tree g A i j) → height τ ≤ suc p → (at g.nodes t A i j ≤ key_of τ) × (at g.nodes t A i j < EMPTY)
      one (leaf r e l d) h = w.tree (leaf r e l d) (omega arith)
      one (pair r k l s u) h =
          let ls = joined_left (height s) (height u) in
          let lu = joined_right (height s) (height u) in
          let v = le r k _ _ _ _ _ l s u (omega arith) (omega arith) in
          (v, omega (arith, v, key_low (pair r k l s u) (omega arith)))

  -- a pass does
  pub pass_within : (p : ℕ) (t : List ℕ) (ss : List Step) → SoundTable g t → Within g (suc p) t → Pass g ss
      → Within g (suc (suc p)) (after g.nodes t ss)
  pass_within p t ss sound w pass = go (dec_lt (cells g) (suc p))
    where
      n : ℕ
      n = g.nodes

      kept : (q : ℕ) → Within g q t → Within g q (after n t ss)
      kept q = within_falls t (after n t ss) (after_falls n t ss)

      go : Dec (cells g < suc p) → Within g (suc (suc p)) (after n t ss)
      go (yes q) = kept (suc (suc p)) (within_all t sound (within_lower (omega arith) w) (suc (suc p)))
      go (no q) =
          taken_in (suc p) (after n t ss) (omega arith) (kept 1 (within_lower (omega arith) w)) λ r k A B C i j l s u hs hu.
          let ask = asks r A B C i k j in
          let can = asks_possible l s u in
          fallen (suc p) (key_of (pair r k l s u)) ask (λ t' w'. offer_le t' w' l s u hs hu) t ss
          (omega (arith, target_in ok ask can, sound.long)) w (pass.every ask can)

  -- a still table has, up to one more than the number of cells
  pub still_within : (t : List ℕ) → cells g ≤ length t → Within g 1 t → Still g t → (p : ℕ) → p ≤ cells g → Within g (suc p) t
  still_within t long w still zero few = w
  still_within t long w still (suc p) few =
      let ih = still_within t long w still p (omega arith) in
      taken_in (suc p) t few w λ r k A B C i j l s u hs hu.
      let ask = asks r A B C i k j in
      let can = asks_possible l s u in
      let now = step_target g.nodes t ask (omega (arith, target_in ok ask can)) in
      omega (arith, rw (still.step ask can) at now, offer_le t ih l s u hs hu)

  -- passes, one after the other
  pub passes_sound : (t : List ℕ) (pp : List (List Step)) → Passes g pp → SoundTable g t → SoundTable g (after_all g.nodes t pp)
  passes_sound t [] c sound = sound
  passes_sound t (ss ∷ pp) c sound = passes_sound (after g.nodes t ss) pp c.1 (after_sound ok t ss c.0.only sound)

  pub passes_within : (p : ℕ) (t : List ℕ) (pp : List (List Step)) → Passes g pp → SoundTable g t → Within g (suc p) t
      → Within g (suc p + length pp) (after_all g.nodes t pp)
  passes_within p t [] c sound w = within_lower (omega arith) w
  passes_within p t (ss ∷ pp) c sound w =
      within_lower (omega arith)
      (passes_within (suc p) (after g.nodes t ss) pp c.1 (after_sound ok t ss c.0.only sound) (pass_within p t ss sound w c.0))
