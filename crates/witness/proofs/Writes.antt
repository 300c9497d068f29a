-- From an accepted window or witness to what its walk asks, and from what the walk writes to the answer. Assumes nothing.
use mathlib.Core.Path.{◌≡◌, refl, ap, ◌∙◌}
use mathlib.Core.List.{List}
use Prim.Native.Nat.{ℕ, ◌<◌}
use native.Mathlib.Omega.{arith}
use lib.ListN.{length}
use Rattle.key.specs.Keys.{EMPTY}
use Rattle.std.specs.Prelude.{Ok, Err}
use Rattle.words.specs.Tab.{over}
use Rattle.words.proofs.Refusals.{and_next, and_stop}
use Rattle.words.specs.Refusals.{Refusal, Good}
use Rattle.meaning.specs.Net.{Sane}
use Rattle.meaning.specs.Table.{at}
use Rattle.meaning.specs.Lengths.{HELD, Recorded}
use Rattle.meaning.proofs.Recorded.{recorded_some, recorded_length}
use Rattle.numbers.specs.Numbers.{room_check}
use Rattle.lists.specs.Lists.{net}
use Rattle.numbers.specs.declared.Numbers.{Numbers}
use Rattle.numbers.proofs.Right.{room_good}
use Rattle.lists.proofs.Right.{RightLists, accepted, sane}
use Rattle.witness.specs.Answers.{window_check, witness_check, part, Answered, Windowed, Witnessed}
use Rattle.witness.specs.Walks.{Asked, Walkable, PartWritten}
use Rattle.witness.specs.declared.spot.Spot.{Spot}
use Rattle.witness.specs.declared.table.Held.{Held}
use Rattle.witness.proofs.Accepts.{sizes}
use Rattle.witness.proofs.Exact.{Ask, window_good}
use Rattle.witness.proofs.Windows.{part_whole}

module _ (numbers : Numbers) (rules edges t ls : List ℕ) (a i j : ℕ) where
  abbrev n : ℕ
  n = numbers.nodes

  -- the recorded path of a cell: it is there, and its length is the recorded one
  pub record Recording : Type 0 where
    pub path : List ℕ
    pub recorded : Recorded (net numbers rules edges) t a i j path
    pub long : length path ≡ at n ls a i j

  module _ (good : window_check numbers rules edges a i j t ls ≡ Good) where
    h : Ask numbers rules edges t ls a i j × (at n t a i j < EMPTY) × (at n ls a i j < HELD)
    h = (window_good numbers rules edges t ls a i j).0 good

    ok : RightLists numbers rules edges
    ok = accepted numbers rules edges h.0.lists

    pub window_sane : Sane (net numbers rules edges)
    window_sane = sane numbers rules edges ok

    pub window_asked : Asked numbers a i j
    window_asked = record { sizes = sizes numbers rules edges h.0.lists; head = h.0.head; from = h.0.from; to = h.0.to }

    pub window_path : Recording
    window_path =
        let way = recorded_some window_sane h.0.right a i j h.0.head h.0.from h.0.to h.1 in
        record { path = way.0; recorded = way.1; long = recorded_length window_sane h.0.right way.1 h.2 }

  -- a window from 0 with room for the whole path holds it
  pub whole_wrote : {r : ℕ} {l l' : List ℕ} → room_check 2 (at n ls a i j) (length l) ≡ Good
      → Windowed numbers rules edges a i j t ls 0 l l' (Ok r) → Witnessed numbers rules edges a i j t ls l l' (Ok r)
  unfolding witness_check
  whole_wrote {r} {l} {l'} roomy (Answered.wrote p good way count words) =
      let h = (window_good numbers rules edges t ls a i j).0 good in
      let long : length p ≡ at n ls a i j = recorded_length (window_sane good) h.0.right way h.2 in
      let e : part 0 (length l) p ≡ p = part_whole (length l) p (omega (arith, long, (room_good _ _ _).0 roomy)) in
      Answered.wrote p (and_next good ∙ roomy) way (count ∙ ap length e) (words ∙ ap (λ q. over q l) e)

  -- and without that room nothing is written
  pub whole_refused : {e : Refusal} {l : List ℕ} → window_check numbers rules edges a i j t ls ≡ Good → room_check 2 (at n ls a i j) (length l) ≡ Err e
      → Witnessed numbers rules edges a i j t ls l l (Err e)
  unfolding witness_check
  whole_refused good short = Answered.refused (and_next good ∙ short) refl

  -- what is refused writes nothing
  pub window_refused : (from : ℕ) {e : Refusal} {l : List ℕ} → window_check numbers rules edges a i j t ls ≡ Err e
      → Windowed numbers rules edges a i j t ls from l l (Err e)
  window_refused from e = Answered.refused e refl

  pub witness_refused : {e : Refusal} {l : List ℕ} → window_check numbers rules edges a i j t ls ≡ Err e → Witnessed numbers rules edges a i j t ls l l (Err e)
  unfolding witness_check
  witness_refused e = Answered.refused (and_stop _ e) refl

-- a cell of a table as it is held
module _ (held : Held) (s : Spot) where
  abbrev rules : List ℕ
  rules = held.lists.rules.now

  abbrev edges : List ℕ
  edges = held.lists.edges.now

  abbrev t : List ℕ
  t = held.table.now

  abbrev ls : List ℕ
  ls = held.lengths.now

  module _ (nodes : s.nodes ≡ held.lists.numbers.nodes) (good : window_check held.lists.numbers rules edges s.a s.i s.j t ls ≡ Good) where
    w : Ask held.lists.numbers rules edges t ls s.a s.i s.j × (at held.lists.numbers.nodes t s.a s.i s.j < EMPTY) × (at held.lists.numbers.nodes ls s.a s.i s.j < HELD)
    w = (window_good held.lists.numbers rules edges t ls s.a s.i s.j).0 good

    pub window_ready : Walkable held s
    window_ready = record {
      nonterminals = held.lists.numbers.nonterminals;
      sane = rw nodes (window_sane held.lists.numbers rules edges t ls s.a s.i s.j good);
      few = (accepted held.lists.numbers rules edges w.0.lists).many_edges;
      right = rw nodes w.0.right;
      head = w.0.head;
      from = rw nodes w.0.from;
      to = rw nodes w.0.to;
      filled = rw nodes w.1;
      short = rw nodes w.2;
    }

    pub window_wrote : {from r : ℕ} {l l' : List ℕ} → PartWritten held s from l l' r
        → Windowed held.lists.numbers rules edges s.a s.i s.j t ls from l l' (Ok r)
    window_wrote p =
        let x = window_path held.lists.numbers rules edges t ls s.a s.i s.j good in
        let y = p.walk held.lists.numbers.nonterminals x.path (rw nodes x.recorded) in
        Answered.wrote x.path good x.recorded y.count y.words
