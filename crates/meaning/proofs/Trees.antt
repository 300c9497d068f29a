-- A path with a derivation tree is a tree with its edges at the leaves, and the other way round; and the bounds of what a tree names.
-- Assumes nothing.
use mathlib.Core.Path.{◌≡◌, refl, sym, ap, ap₂, ◌∙◌, subst}
use mathlib.Core.List.{List, [], ◌∷◌, ◌++◌}
use Prim.Native.Nat.{ℕ, ◌+◌, ◌*◌, ◌^◌, ◌≤◌, ◌<◌}
use native.Mathlib.Omega.{arith}
use native.Mathlib.Nat.{pow-suc}
use lib.ListN.{length, length-append}
use lib.Pow.{pow_mono}
use Rattle.key.specs.Keys.{key, height_of, middle_of, rule_of}
use Rattle.meaning.specs.Net.{Net, Sane, word}
use Rattle.meaning.specs.Trees.{joined, Derives, by_label, by_pair, Path, spell, Reach, Tree, leaf, pair, height, edges_of, key_of}
use Rattle.meaning.proofs.Joined.{joined_left, joined_right, joined_sum}

module _ (g : Net) where
  pub path_append : (i k j : ℕ) (p q : List ℕ) → Path g i k p → Path g k j q → Path g i j (p ++ q)
  path_append i k j [] q e d = subst (λ x. Path g x j q) (sym e) d
  path_append i k j (e ∷ p) q c d = (c.0, c.1, path_append (word g.edges e 2) k j p q c.2 d)

  pub spell-append : (p q : List ℕ) → spell g (p ++ q) ≡ spell g p ++ spell g q
  spell-append [] q = refl
  spell-append (e ∷ p) q = ap (λ l. word g.edges e 1 ∷ l) (spell-append p q)

  -- a path cut where its word is cut
  record Cut (i j : ℕ) (p u v : List ℕ) : Type 0 where
    k : ℕ
    p₁ : List ℕ
    p₂ : List ℕ
    joins : p₁ ++ p₂ ≡ p
    path₁ : Path g i k p₁
    path₂ : Path g k j p₂
    word₁ : spell g p₁ ≡ u
    word₂ : spell g p₂ ≡ v

  cut_cons : {i j e x : ℕ} {p u v : List ℕ} → Path g i j (e ∷ p) → word g.edges e 1 ≡ x → Cut (word g.edges e 2) j p u v
      → Cut i j (e ∷ p) (x ∷ u) v
  cut_cons {e} d l c = record {
    k = c.k;
    p₁ = e ∷ c.p₁;
    p₂ = c.p₂;
    joins = ap (λ l. e ∷ l) c.joins;
    path₁ = (d.0, d.1, c.path₁);
    path₂ = c.path₂;
    word₁ = ap₂ ◌∷◌ l c.word₁;
    word₂ = c.word₂;
  }

  cut : (i j : ℕ) (u v p : List ℕ) → Path g i j p → spell g p ≡ u ++ v → Cut i j p u v
  cut i j [] v p d e = record { k = i; p₁ = []; p₂ = p; joins = refl; path₁ = refl; path₂ = d; word₁ = refl; word₂ = e }
  cut i j (x ∷ u) v [] d e = let z : ◌≡◌ {A = ℕ} 0 1 = cc in absurd (omega arith)
  cut i j (x ∷ u) v (a ∷ p) d e = cut_cons d (cc) (cut (word g.edges a 2) j u v p d.2 (cc))

-- a tree over the path p, of height h
pub record TreeOver (g : Net) (A i j h : ℕ) (p : List ℕ) : Type 0 where
  pub tree : Tree g A i j
  pub tall : height tree ≡ h
  pub over : edges_of tree ≡ p

-- the cell that a tree belongs to is in range
pub record Inside (g : Net) (A i j : ℕ) : Type 0 where
  pub head : A < g.nonterminals
  pub from : i < g.nodes
  pub to : j < g.nodes

record Made (nodes rules h κ : ℕ) : Type 0 where
  middle : ℕ
  rule : ℕ
  low : middle < nodes
  few : rule < rules
  is : κ ≡ key h middle rule

module _ {g : Net} where
  grow : {A h : ℕ} {w : List ℕ} → Derives g A h w → (i j : ℕ) (p : List ℕ) → Path g i j p → spell g p ≡ w → TreeOver g A i j h p
  grow (by_label {x} r l) i j [] d e = let z : ◌≡◌ {A = ℕ} 0 1 = cc in absurd (omega arith)
  grow (by_label {x} r l) i j (a ∷ []) d e =
      record { tree = leaf r a l (record { inside = d.0; from = d.1; label = cc; to = d.2 }); tall = refl; over = refl }
  grow (by_label {x} r l) i j (a ∷ b ∷ p) d e = let z : ◌≡◌ {A = ℕ} 0 1 = cc in absurd (omega arith)
  grow (by_pair {u} {v} r l s t) i j p d e =
      let c = cut g i j u v p d e in
      let x = grow s i c.k c.p₁ c.path₁ c.word₁ in
      let y = grow t c.k j c.p₂ c.path₂ c.word₂ in
      record {
        tree = pair r c.k l x.tree y.tree;
        tall = ap₂ joined x.tall y.tall;
        over = ap₂ ◌++◌ x.over y.over ∙ c.joins;
      }

  -- a path with a derivation tree of height h is a tree of height h over that path
  pub reach_tree : {A i j h : ℕ} {p : List ℕ} → Reach g A i j h p → TreeOver g A i j h p
  reach_tree {i} {j} {p} r = grow r.tree i j p r.path refl

  -- and the other way round
  pub tree_reach : {A i j : ℕ} (τ : Tree g A i j) → Reach g A i j (height τ) (edges_of τ)
  tree_reach (leaf r e l d) = record { path = (d.inside, d.from, d.to); tree = rw d.label (by_label r l) }
  tree_reach (pair {i} {j} r k l s t) =
      let x = tree_reach s in
      let y = tree_reach t in
      record {
        path = path_append g i k j (edges_of s) (edges_of t) x.path y.path;
        tree = rw (spell-append g (edges_of s) (edges_of t)) (by_pair r l x.tree y.tree);
      }

  pub height_pos : {A i j : ℕ} (τ : Tree g A i j) → 1 ≤ height τ
  height_pos (leaf r e l d) = omega arith
  height_pos (pair r k l s t) = omega (arith, joined_left (height s) (height t))

  -- a tree has at least as many edges as its height
  pub edges_many : {A i j : ℕ} (τ : Tree g A i j) → height τ ≤ length (edges_of τ)
  edges_many (leaf r e l d) = omega arith
  edges_many (pair r k l s t) =
      let sum = joined_sum (height s) (height t) (height_pos s) (height_pos t) in
      omega (arith, edges_many s, edges_many t, length-append (edges_of s) (edges_of t))

  -- one level more of height at most doubles the number of edges
  pub edges_few : {A i j : ℕ} (τ : Tree g A i j) → 2 * length (edges_of τ) ≤ 2 ^ height τ
  edges_few (leaf r e l d) = omega arith
  edges_few (pair r k l s t) =
      let left = pow_mono (joined_left (height s) (height t)) in
      let right = pow_mono (joined_right (height s) (height t)) in
      omega (arith, edges_few s, edges_few t, length-append (edges_of s) (edges_of t), pow-suc 2 (height s), pow-suc 2 (height t))

  module _ (ok : Sane g) where
    pub tree_inside : {A i j : ℕ} → Tree g A i j → Inside g A i j
    tree_inside {A} {i} {j} (leaf {x} r e l d) =
        let b = ok.leaves r A x l in
        let c = ok.ends e i x j d in
        record { head = b.head; from = c.from; to = c.to }
    tree_inside {A} (pair {B} {C} r k l s t) =
        record { head = (ok.pairs r A B C l).head; from = (tree_inside s).from; to = (tree_inside t).to }

    -- a tree's key is made of its height, a node and a rule
    key_made : {A i j : ℕ} (τ : Tree g A i j) → Made g.nodes g.rules (height τ) (key_of τ)
    key_made {A} (leaf {i} {j} {x} r e l d) = record {
      middle = i;
      rule = r;
      low = (ok.ends e i x j d).from;
      few = (ok.leaves r A x l).rule;
      is = refl;
    }
    key_made {A} (pair {B} {C} r k l s t) = record {
      middle = k;
      rule = r;
      low = (tree_inside s).to;
      few = (ok.pairs r A B C l).rule;
      is = refl;
    }

    pub key_bounds : {A i j : ℕ} (τ : Tree g A i j) → (height τ * 4294967296 ≤ key_of τ) × (key_of τ < height τ * 4294967296 + 4294967296)
    key_bounds τ = omega (arith, key_made τ, ok.nodes, ok.rules)

    pub key_height : {A i j : ℕ} (τ : Tree g A i j) → height_of (key_of τ) ≡ height τ
    key_height τ = omega (arith, key_made τ, ok.nodes, ok.rules)

    pub key_middle : {A i j : ℕ} (τ : Tree g A i j) → middle_of (key_of τ) < g.nodes
    key_middle τ = omega (arith, key_made τ, ok.nodes, ok.rules)

    pub key_rule : {A i j : ℕ} (τ : Tree g A i j) → rule_of (key_of τ) < g.rules
    key_rule τ = omega (arith, key_made τ, ok.nodes, ok.rules)
