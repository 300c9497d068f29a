-- From the start to the final table, and from there to its lengths: what the run's parts amount to. Assumes nothing.
use mathlib.Core.Path.{◌≡◌, refl, subst}
use mathlib.Core.List.{List, [], ◌∷◌, ◌++◌}
use mathlib.Core.Logic.{◌≢◌, inl, inr}
use Prim.Native.Nat.{ℕ, zero, suc, ◌/◌, ◌%◌, ◌≤◌, ◌<◌}
use native.Mathlib.Omega.{arith}
use native.Mathlib.Decide.{dec_lt}
use lib.ListN.{length, get_or}
use Rattle.key.specs.Keys.{EMPTY, HIGHEST, height_of, middle_of}
use Rattle.words.specs.Refusals.{Refusal, Good}
use Rattle.std.specs.Prelude.{Result, Ok, Err}
use Rattle.words.proofs.Refusals.{and_good}
use Rattle.meaning.specs.Net.{Net, Sane}
use Rattle.meaning.specs.Table.{cell, at, Each, StartTable}
use Rattle.meaning.specs.Steps.{Step, Possible, All, target_of}
use Rattle.meaning.specs.Passes.{steps_of}
use Rattle.meaning.specs.Final.{FinalTable}
use Rattle.meaning.specs.Lengths.{LengthCell, none, one, sum, Lengths}
use Rattle.meaning.proofs.Joined.{joined_left, joined_right}
use Rattle.meaning.proofs.Cells.{cell_in, cell_parts, cell_back, cells_numbers}
use Rattle.meaning.proofs.Steps.{sound_le}
use Rattle.meaning.proofs.After.{all_each}
use Rattle.meaning.proofs.Start.{start_high}
use Rattle.meaning.proofs.Heights.{high_few}
use Rattle.meaning.proofs.PassOf.{pass_of, pass_still}
use Rattle.meaning.proofs.AnyOrder.{start_final}
use Rattle.meaning.proofs.Right.{Sides, Kind, leaf, pair, final_kinds}
use Rattle.numbers.specs.declared.Numbers.{Numbers}
use Rattle.numbers.specs.Numbers.{cells_of, room_check}
use Rattle.lists.specs.Lists.{net, lists_check}
use Rattle.numbers.proofs.Right.{room_good}
use Rattle.lists.proofs.Right.{RightLists, accepted, sane}
use Rattle.closure.specs.declared.Size.{Size}
use Rattle.closure.specs.Sizes.{count, LowTable, RulesInside}
use Rattle.closure.specs.Passes.{passes, Settled}
use Rattle.closure.specs.Fills.{left_side, right_side, PairCell, Linked, KnownCell, unknown, one, sides, Idle, empty, known, waits, Finished}
use Rattle.closure.specs.Runs.{run_check, High12, RunIs}

-- what holds of every step holds of those before one, and of that one
all_before : (P : Step → Type 0) (ss : List Step) (s : Step) (rest : List Step) → All P (ss ++ (s ∷ rest)) → All P ss × P s
all_before P [] s rest a = (tt, a.0)
all_before P (x ∷ ss) s rest a = let h = all_before P ss s rest a.1 in ((a.0, h.0), h.1)

-- what the run's checks leave
pub record RunReady (numbers : Numbers) (rules edges t ls : List ℕ) : Type 0 where
  pub lists : RightLists numbers rules edges
  pub table : cells_of numbers ≤ length t
  pub lengths : cells_of numbers ≤ length ls

module _ (numbers : Numbers) (rules edges t ls : List ℕ) (good : run_check numbers rules edges (length t) (length ls) ≡ Good) where
  pub ready : RunReady numbers rules edges t ls
  unfolding run_check
  ready =
      let a = (and_good (lists_check numbers rules edges) _).0 good in
      let b = (and_good (room_check 0 (cells_of numbers) (length t)) _).0 a.1 in
      record {
        lists = accepted numbers rules edges a.0;
        table = (room_good 0 (cells_of numbers) (length t)).0 b.0;
        lengths = (room_good 1 (cells_of numbers) (length ls)).0 b.1;
      }

-- a refused run changes nothing
pub run_refused : (numbers : Numbers) (rules edges t ls : List ℕ) {a : Result ℕ Refusal} (r : Refusal) → a ≡ Err r
    → run_check numbers rules edges (length t) (length ls) ≡ Err r
    → RunIs (run_check numbers rules edges (length t) (length ls)) (net numbers rules edges) t ls t ls a
run_refused numbers rules edges t ls r e d = rw d (e, record { table = refl; lengths = refl })

module _ (numbers : Numbers) (rules edges : List ℕ) (lists : RightLists numbers rules edges) where
  abbrev g : Net
  g = net numbers rules edges

  abbrev z : Size
  z = record { nodes = numbers.nodes; nonterminals = numbers.nonterminals }

  abbrev n : ℕ
  n = numbers.nodes

  ok : Sane (net numbers rules edges)
  ok = sane numbers rules edges lists

  pub rules_right : RulesInside z rules
  rules_right = record { few = lists.many_rules; pair = λ r A B C p. let q = ok.pairs r A B C p in record { head = q.head; left = q.left; right = q.right } }

  module _ (t : List ℕ) (start : StartTable g t) where
    pub start_low : LowTable z t
    start_low = record { long = start.long; cell = cells_numbers g t (λ A i j v. v < EMPTY → height_of v ≤ HIGHEST) (high_few ok t (start_high ok t start)) }

    passes_can : (c : ℕ) → All (Possible g) (passes rules n c)
    passes_can c = all_each (Possible g) (λ x. steps_of rules n) c (λ x l. (pass_of n numbers.nonterminals rules edges).only)

    -- the passes end in the final table
    pub settled_final : (t' : List ℕ) → Settled z rules t t' (Ok tt) → FinalTable g t'
    settled_final t' s =
        let still = pass_still {g = g} t' (steps_of rules n) (pass_of n numbers.nonterminals rules edges) s.ended.1 in
        rw s.ended.0 (start_final ok t start (passes rules n s.passed) (passes_can s.passed) (rw s.ended.0 at still))

    -- or a step would be too high
    pub settled_high : (t' : List ℕ) (r : Refusal) (s : Settled z rules t t' (Err r)) → High12 g (target_of n s.ended.step)
    settled_high t' r s =
        let h = s.ended in
        let can = all_before (Possible g) h.done h.step h.rest (rw h.split at (passes_can s.passed)) in
        record { start = t; starts = start; steps = h.done; only = can.0; step = h.step; can = can.1; high = h.high; place = refl }

  -- a pair cell, the rule it names, and its sides by their numbers
  record PairAt (t : List ℕ) (A i j : ℕ) : Type 0 where
    B : ℕ
    C : ℕ
    rule : g.Pair (get_or t (cell n A i j) 0 % 65536) A B C
    sides : Sides g t A B C i j (middle_of (at n t A i j))
    left_is : left_side z rules t (cell n A i j) ≡ cell n B i (middle_of (at n t A i j))
    right_is : right_side z rules t (cell n A i j) ≡ cell n C (middle_of (at n t A i j)) j

  module _ (t : List ℕ) (final : FinalTable g t) where
    pair_at : (A i j : ℕ) → A < numbers.nonterminals → i < n → j < n → PairCell t (cell n A i j) → PairAt t A i j
    pair_at A i j hA hi hj p = go (final_kinds ok final A i j hA hi hj p.filled)
      where
        go : Kind g t A i j → PairAt t A i j
        go (leaf x e h l m d) = absurd (p.high h)
        go (pair B C r s) =
            let e = cell_parts n A i j hi hj in
            record {
              B = B;
              C = C;
              rule = r;
              sides = s;
              left_is = rw (e.1, r.left) refl;
              right_is = rw (e.2, r.right) refl;
            }

    -- the sides of a pair cell: cells that are filled and lower
    record Below (c : ℕ) : Type 0 where
      left_in : left_side z rules t c < count z
      right_in : right_side z rules t c < count z
      left : get_or t (left_side z rules t c) 0 < EMPTY
      right : get_or t (right_side z rules t c) 0 < EMPTY
      left_low : height_of (get_or t (left_side z rules t c) 0) < height_of (get_or t c 0)
      right_low : height_of (get_or t (right_side z rules t c) 0) < height_of (get_or t c 0)

    below : (c : ℕ) → c < count z → PairCell t c → Below c
    below c l p =
        let b = cell_back n numbers.nonterminals c l in
        subst Below b.is (here (c / n / n) (c / n % n) (c % n) b.head b.from b.to (rw b.is p))
      where
        here : (A i j : ℕ) → A < numbers.nonterminals → i < n → j < n → PairCell t (cell n A i j) → Below (cell n A i j)
        here A i j hA hi hj p =
            let a = pair_at A i j hA hi hj p in
            let q = ok.pairs _ _ _ _ a.rule in
            let s = a.sides in
            record {
              left_in = rw a.left_is (cell_in n numbers.nonterminals a.B i _ q.left hi s.middle);
              right_in = rw a.right_is (cell_in n numbers.nonterminals a.C _ j q.right s.middle hj);
              left = rw a.left_is s.left;
              right = rw a.right_is s.right;
              left_low = rw (a.left_is, s.high) (joined_left _ _);
              right_low = rw (a.right_is, s.high) (joined_right _ _);
            }

    pub final_linked : Linked z rules t
    final_linked = record {
      nodes = lists.nodes.low;
      long = final.long;
      left = λ c l p. (below c l p).left_in;
      right = λ c l p. (below c l p).right_in;
    }

    module _ (ls ls' : List ℕ) (done : Finished z rules t ls ls') where
      -- by their heights, all filled cells are known
      all_known : (h c : ℕ) → c < count z → height_of (get_or t c 0) < h → get_or t c 0 < EMPTY → get_or ls' c 0 ≢ 0
      all_known zero c l low f = absurd (omega arith)
      all_known (suc h) c l low f = go (all_known h) (done.idle c l)
        where
          go : ((x : ℕ) → x < count z → height_of (get_or t x 0) < h → get_or t x 0 < EMPTY → get_or ls' x 0 ≢ 0) → Idle z rules t ls' c → get_or ls' c 0 ≢ 0
          go ih (empty e) = absurd (omega arith)
          go ih (known k) = k
          go ih (waits p (inl e)) = let b = below c l p in absurd (ih _ b.left_in (omega (arith, b.left_low)) b.left e)
          go ih (waits p (inr e)) = let b = below c l p in absurd (ih _ b.right_in (omega (arith, b.right_low)) b.right e)

      -- so the lengths are the table's
      pub finished_lengths : Lengths g t ls'
      finished_lengths = record { long = done.known.long; cell = λ A i j hA hi hj. each A i j hA hi hj }
        where
          each : Each g (LengthCell g t ls')
          each A i j hA hi hj =
              let l = cell_in n numbers.nonterminals A i j hA hi hj in
              go l (dec_lt (at n t A i j) EMPTY) (done.known.cell (cell n A i j) l)
            where
              go : cell n A i j < count z → Dec (at n t A i j < EMPTY) → KnownCell z rules t ls' (cell n A i j) → LengthCell g t ls' A i j
              go l (yes f) (unknown e) = absurd (all_known (suc (height_of (at n t A i j))) (cell n A i j) l (omega arith) f e)
              go l (no f) (unknown e) = none (omega (arith, sound_le (final.cell A i j hA hi hj).real)) e
              go l d (one f h e) = LengthCell.one h e
              go l d (sides p x y e) =
                  let a = pair_at A i j hA hi hj p in
                  sum a.B a.C (middle_of (at n t A i j)) p.filled p.high a.rule refl (rw (a.left_is, a.right_is) at e)
