-- A pass read off the code's order is a pass; and a table that one pass leaves as it was is still. Assumes nothing.
use mathlib.Core.Path.{◌≡◌, refl, sym, subst}
use mathlib.Core.List.Memᴰ
use mathlib.Core.List.{List, [], ◌∷◌, Memᴰ}
use mathlib.Core.Logic.{◌≢◌, ◌⊎◌, inl, inr}
use mathlib.Core.Bool.{Bool, true, false, cond}
use Prim.Native.Nat.{ℕ, zero, suc, ◌/◌, ◌≤◌, ◌<◌}
use native.Mathlib.Omega.{arith}
use native.Mathlib.Nat.{le_antisymm}
use native.Mathlib.Decide.{ℕ_discrete}
use lib.ListN.{length, get_or}
use lib.Seq.{ext_get_or}
use lib.Dec.{eqb}
use borrow.Author.Tests.{eqb-false, ne_eqb}
use Rattle.meaning.specs.Net.{Net, net_of, word, PairRule}
use Rattle.meaning.specs.Steps.{Step, Possible, step, after, All, Pass, Still}
use Rattle.meaning.specs.Passes.{ask_of, each, rule_steps, steps_of, changes}
use Rattle.meaning.proofs.Steps.{step_length, step_falls}
use Rattle.meaning.proofs.After.{all_each, after_falls, changes_none}

-- the step of a pair rule is the one that its number asks for
pub ask_is : {rules : List ℕ} (s : Step) → PairRule rules s.rule s.head s.left s.right
    → s ≡ ask_of rules s.rule s.from s.middle s.to
unfolding ask_of
ask_is s c = λ x. record {
  rule = s.rule;
  head = sym c.head x;
  left = sym c.left x;
  right = sym c.right x;
  from = s.from;
  middle = s.middle;
  to = s.to;
}

each_member : (s : Step) (f : ℕ → List Step) (x c : ℕ) → x < c → Memᴰ s (f x) → Memᴰ s (each c f)
each_member s f x zero l m = absurd (omega arith)
each_member s f x (suc c) l m = go (λ l'. each_member s f x c l' m) (ℕ_discrete x c)
  where
    go : (x < c → Memᴰ s (each c f)) → Dec (x ≡ c) → Memᴰ s (each (suc c) f)
    go ih (yes e) = Memᴰ.append_right (each c f) (rw e at m)
    go ih (no e) = Memᴰ.append_left (f c) (ih (omega arith))

all_pairs : (P : Step → Type 0) (b : Bool) (ss : List Step) → (b ≡ false → All P ss) → All P (cond b [] ss)
all_pairs P true ss f = tt
all_pairs P false ss f = f refl

module _ (n m : ℕ) (rules edges : List ℕ) where
  pub ask_possible : (r i k j : ℕ) → r < length rules / 3 → word rules r 2 ≢ 65535 → i < n → k < n → j < n
      → Possible (net_of n m rules edges) (ask_of rules r i k j)
  unfolding ask_of
  ask_possible r i k j l pair hi hk hj =
      record { rule = record { inside = l; head = refl; left = refl; right = refl; pair = pair }; from = hi; middle = hk; to = hj }

  rule_every : (s : Step) → Possible (net_of n m rules edges) s → Memᴰ s (rule_steps rules n s.rule)
  rule_every s can =
      rw (ne_eqb _ _ can.rule.pair)
      (each_member s _ s.from n can.from
      (each_member s _ s.middle n can.middle (each_member s _ s.to n can.to (Memᴰ.head (ask_is s can.rule)))))

  rule_only : (r : ℕ) → r < length rules / 3 → All (Possible (net_of n m rules edges)) (rule_steps rules n r)
  rule_only r l =
      all_pairs _ (eqb (word rules r 2) 65535) _ λ e.
      all_each _ _ n λ i hi. all_each _ _ n λ k hk. all_each _ _ n λ j hj. (ask_possible r i k j l (eqb-false _ _ e) hi hk hj, tt)

  -- the nested loops make a pass
  pub pass_of : Pass (net_of n m rules edges) (steps_of rules n)
  unfolding steps_of
  pass_of = record {
    only = all_each (Possible (net_of n m rules edges)) (rule_steps rules n) (length rules / 3) rule_only;
    every = λ s can. each_member s (rule_steps rules n) s.rule (length rules / 3) can.rule.inside (rule_every s can);
  }

module _ (n : ℕ) where
  -- a table that a stretch leaves as it was is left as it was by each of its steps
  same_first : (t : List ℕ) (s : Step) (ss : List Step) → after n t (s ∷ ss) ≡ t → step n t s ≡ t
  same_first t s ss e =
      ext_get_or 0 (step n t s) t (step_length n t s) (λ c l. le_antisymm (step_falls n t s c) (back c))
    where
      back : (c : ℕ) → get_or t c 0 ≤ get_or (step n t s) c 0
      back c = subst (λ x. get_or x c 0 ≤ get_or (step n t s) c 0) e (after_falls n (step n t s) ss c)

  pub same_steps : (t : List ℕ) (ss : List Step) → after n t ss ≡ t → (s : Step) → Memᴰ s ss → step n t s ≡ t
  same_steps t [] e s m = absurd (Memᴰ.not-nil m)
  same_steps t (x ∷ ss) e s m = go (same_steps t ss (rw (same_first t x ss e) at e)) (Memᴰ.cases_cons m)
    where
      go : ((s' : Step) → Memᴰ s' ss → step n t s' ≡ t) → (s ≡ x) ⊎ Memᴰ s ss → step n t s ≡ t
      go ih (inl q) = rw q (same_first t x ss e)
      go ih (inr q) = ih s q

-- a table that one whole pass leaves as it was is still
pub pass_still : {g : Net} (t : List ℕ) (ss : List Step) → Pass g ss → after g.nodes t ss ≡ t → Still g t
pass_still {g} t ss pass e = record { step = λ s can. same_steps g.nodes t ss e s (pass.every s can) }

pub quiet_still : {g : Net} (t : List ℕ) (ss : List Step) → Pass g ss → changes g.nodes t ss ≡ false → Still g t
quiet_still {g} t ss pass e = pass_still t ss pass (changes_none g.nodes t ss e)
