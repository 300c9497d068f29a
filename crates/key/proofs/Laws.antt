-- What a key holds, and how keys compare: as one number, by height, then middle, then rule. Assumes nothing.
use mathlib.Core.Path.{◌≡◌}
use mathlib.Core.Logic.{◌↔◌}
use Prim.Native.Nat.{ℕ, ◌≤◌, ◌<◌}
use native.Mathlib.Omega.{arith}
use lib.Dec.{ltb}
use borrow.Author.Tests.{ltb-true, ltb-false}
use borrow.Table.Steps.{cases}
use Rattle.key.specs.declared.Parts.{Parts}
use Rattle.key.specs.Keys.{EMPTY, HIGHEST, key, height_of, middle_of, rule_of, parts_of}

-- make after split
pub key_parts : (w : ℕ) → key (height_of w) (middle_of w) (rule_of w) ≡ w
key_parts w = omega arith

module _ (h k r : ℕ) (hk : k < 65536) (hr : r < 65536) where
  pub height_key : height_of (key h k r) ≡ h
  height_key = omega arith

  pub middle_key : middle_of (key h k r) ≡ k
  middle_key = omega arith

  pub rule_key : rule_of (key h k r) ≡ r
  rule_key = omega arith

  -- split after make
  pub parts_key : ◌≡◌ {A = Parts} (parts_of (key h k r)) (record { height = h; middle = k; rule = r })
  parts_key = λ i. record { height = height_key i; middle = middle_key i; rule = rule_key i }

  -- a key whose height is not refused is no empty cell, and smaller than one
  pub key_below_empty : h ≤ HIGHEST → key h k r < EMPTY
  key_below_empty l = omega arith

-- the order by height, then middle, then rule
pub data Before (h k r h' k' r' : ℕ) : Type 0 where
  lower : h < h' → Before h k r h' k' r'
  nearer : h ≡ h' → k < k' → Before h k r h' k' r'
  earlier : h ≡ h' → k ≡ k' → r < r' → Before h k r h' k' r'

module _ (h k r h' k' r' : ℕ) (hk : k < 65536) (hr : r < 65536) (hk' : k' < 65536) (hr' : r' < 65536) where
  less : Before h k r h' k' r' → key h k r < key h' k' r'
  less (lower l) = omega arith
  less (nearer e l) = omega arith
  less (earlier e d l) = omega arith

  before : key h k r < key h' k' r' → Before h k r h' k' r'
  before l =
      cases (ltb h h')
      (λ t. lower (ltb-true h h' t))
      (λ f.
      let a = ltb-false h h' f in
      cases (ltb k k')
      (λ t. nearer (omega arith) (ltb-true k k' t))
      (λ g. let b = ltb-false k k' g in earlier (omega arith) (omega arith) (omega arith)))

  -- keys compare as numbers the way their parts compare: height first, then middle, then rule number
  pub key_order : (key h k r < key h' k' r') ↔ Before h k r h' k' r'
  key_order = (before, less)

  -- keys are equal exactly if their parts are
  pub key_same : (key h k r ≡ key h' k' r') ↔ ((h ≡ h') × (k ≡ k') × (r ≡ r'))
  key_same = (λ e. omega arith, λ e. omega arith)
