-- The net that two lists hold is sane where the numbers in them are within their limits. Assumes nothing.
use mathlib.Core.Path.{sym, ◌∙◌}
use mathlib.Core.List.{List}
use mathlib.Core.Logic.{◌≢◌}
use Prim.Native.Nat.{ℕ, ◌/◌, ◌≤◌, ◌<◌}
use lib.ListN.{length}
use Rattle.meaning.specs.Net.{Sane, net_of, word}

pub sane_lists : (n m : ℕ) (rules edges : List ℕ) → n ≤ 64 → m ≤ 32 → length rules / 3 ≤ 256
    → ((r : ℕ) → r < length rules / 3 → word rules r 0 < m)
    → ((r : ℕ) → r < length rules / 3 → word rules r 2 ≢ 65535 → (word rules r 1 < m) × (word rules r 2 < m))
    → ((e : ℕ) → e < length edges / 3 → (word edges e 0 < n) × (word edges e 2 < n))
    → Sane (net_of n m rules edges)
sane_lists n m rules edges hn hm few heads sides ends = record {
  nodes = hn;
  nonterminals = hm;
  rules = few;
  pairs = λ r A B C p. let s = sides r p.inside p.pair in record {
    rule = p.inside;
    head = rw p.head at (heads r p.inside);
    left = rw p.left at s.0;
    right = rw p.right at s.1;
  };
  leaves = λ r A x p. record { rule = p.inside; head = rw p.head at (heads r p.inside) };
  ends = λ e i x j d. let s = ends e d.inside in record { from = rw d.from at s.0; to = rw d.to at s.1 };
  one_pair = λ r A B C B' C' p q. (sym p.left ∙ q.left, sym p.right ∙ q.right);
  one_label = λ r A x x' p q. sym p.label ∙ q.label;
  apart = λ r A B C x p q. p.pair q.mark;
}
