-- Each promise settles the answer and every lent word: two outcomes that meet it are equal. Assumes nothing.
use mathlib.Core.Path.{◌≡◌, sym, ap, ◌∙◌}
use mathlib.Core.HLevel.{is_prop→PathP}
use mathlib.Core.List.{List}
use Prim.Native.Nat.{ℕ}
use native.Mathlib.Nat.{ℕ_set}
use lib.ListN.{length}
use Rattle.std.specs.Prelude.{Result, Ok, Err}
use Rattle.std.specs.Borrow.{Bor}
use Rattle.words.specs.Tab.{over}
use Rattle.words.proofs.Refusals.{good_bad, bad_same, and_good}
use Rattle.words.specs.Refusals.{Refusal, Check, Good}
use Rattle.meaning.specs.Net.{Net, Sane}
use Rattle.meaning.proofs.Recorded.{recorded_one}
use Rattle.numbers.specs.declared.Numbers.{Numbers}
use Rattle.lists.specs.declared.Lists.{Lists}
use Rattle.lists.proofs.Settled.{passes_once, answer_settled}
use Rattle.witness.specs.Answers.{table_check, window_check, check_answer, witness_check, Answered, Windowed, Witnessed}
use Rattle.witness.specs.declared.table.Held.{Held}
use Rattle.witness.specs.declared.checked.CheckedTable.{CheckedTable}
use Rattle.witness.specs.declared.path.RecordedPath.{RecordedPath}
use Rattle.witness.proofs.Writes.{window_sane}
use Rattle.witness.proofs.checked.CheckedTable.new.Reads as checked
use Rattle.witness.proofs.checked.CheckedTable.path.Reads as found
use Rattle.witness.proofs.path.RecordedPath.new.Reads as recorded

-- the answer and the words at the exit
pub record Same (r s : Result ℕ Refusal) (x y : List ℕ) : Type 0 where
  pub answer : r ≡ s
  pub words : x ≡ y

module _ {g : Net} {t : List ℕ} {A i j : ℕ} {check : Check} {of : List ℕ → List ℕ} {entry : List ℕ} (ok : check ≡ Good → Sane g) where
  settled : {r s : Result ℕ Refusal} {x y : List ℕ} → Answered g t A i j check of entry x r → Answered g t A i j check of entry y s → Same r s x y
  settled (Answered.refused e k) (Answered.refused f l) = record { answer = ap Err (bad_same (sym e ∙ f)); words = k ∙ sym l }
  settled (Answered.refused e k) (Answered.wrote p f w n l) = absurd (good_bad (sym f ∙ e))
  settled (Answered.wrote p f w n l) (Answered.refused e k) = absurd (good_bad (sym f ∙ e))
  settled (Answered.wrote p f w n l) (Answered.wrote q _ v m k) =
      let e = recorded_one (ok f) w v in
      record {
        answer = ap Ok (n ∙ ap (λ p. length (of p)) e ∙ sym m);
        words = l ∙ ap (λ p. over (of p) entry) e ∙ sym k;
      }

module _ (numbers : Numbers) (rules edges t ls : List ℕ) where
  -- an equation settles by itself
  pub check_settled : {r s : Check} → r ≡ check_answer numbers rules edges t ls → s ≡ check_answer numbers rules edges t ls → r ≡ s
  check_settled e f = e ∙ sym f

  module _ (a i j : ℕ) where
    pub window_settled : (from : ℕ) {entry x y : List ℕ} {r s : Result ℕ Refusal} → Windowed numbers rules edges a i j t ls from entry x r
        → Windowed numbers rules edges a i j t ls from entry y s → Same r s x y
    window_settled from = settled (window_sane numbers rules edges t ls a i j)

    pub witness_settled : {entry x y : List ℕ} {r s : Result ℕ Refusal} → Witnessed numbers rules edges a i j t ls entry x r
        → Witnessed numbers rules edges a i j t ls entry y s → Same r s x y
    unfolding witness_check
    witness_settled = settled (λ e. window_sane numbers rules edges t ls a i j ((and_good _ _).0 e).0)

-- ---- the calls that make a checked table or a recorded path

-- a table is its lists, cells and lengths; a checked table is its table; a recorded path is its table and cell
held_same : (h k : Held) → h.lists ≡ k.lists → h.table ≡ k.table → h.lengths ≡ k.lengths → h ≡ k
held_same h k l t n = λ i. record { lists = l i; table = t i; lengths = n i }

table_same : (t u : CheckedTable) → t.held ≡ u.held → t ≡ u
table_same t u h = λ i. record {
  held = h i;
  right = is_prop→PathP
      (λ j. let k = h j in table_check k.lists.numbers k.lists.rules.now k.lists.edges.now k.table.now k.lengths.now ≡ Good)
      (λ j. passes_once) t.right u.right i;
}

path_same : (p q : RecordedPath) → p.held ≡ q.held → p.spot ≡ q.spot → p ≡ q
path_same p q h s = λ i. record {
  held = h i;
  spot = s i;
  nodes = is_prop→PathP (λ j. (s j).nodes ≡ (h j).lists.numbers.nodes) (λ j. ℕ_set _ _) p.nodes q.nodes i;
  given = is_prop→PathP
      (λ j. let k = h j in window_check k.lists.numbers k.lists.rules.now k.lists.edges.now (s j).a (s j).i (s j).j k.table.now k.lengths.now ≡ Good)
      (λ j. passes_once) p.given q.given i;
}

-- `CheckedTable::new`. `checked.Post-named` is its contract, clause by clause, as `new.Post-named` in lists, and so below
pub checked_settled : (κs : _) (lists : Lists) (table lengths : Bor (List ℕ)) (x y : Result CheckedTable Refusal) (u v : _)
    → checked.Post-named κs (lists, (table, (lengths, tt))) x u → checked.Post-named κs (lists, (table, (lengths, tt))) y v → x ≡ y
checked_settled κs lists table lengths x y u v p q =
    answer_settled
    (λ t s g h. table_same t s (held_same t.held s.held (g.0 ∙ sym h.0) (g.1.0 ∙ sym h.1.0) (g.1.1 ∙ sym h.1.1)))
    (λ t g. rw (g.0, g.1.0, g.1.1) at t.right)
    x y p.ok p.err q.ok q.err

-- `CheckedTable::path`
pub path_settled : (κs : _) (of : Bor CheckedTable) (a i j : ℕ) (x y : Result RecordedPath Refusal) (u v : _)
    → found.Post-named κs (of, (a, (i, (j, tt)))) x u → found.Post-named κs (of, (a, (i, (j, tt)))) y v → x ≡ y
path_settled κs of a i j x y u v p q =
    answer_settled
    (λ r s g h. path_same r s (g.0 ∙ sym h.0) (g.1 ∙ sym h.1))
    (λ r g. rw (g.0, g.1) at r.given)
    x y p.ok p.err q.ok q.err

-- `RecordedPath::new`
pub recorded_settled : (κs : _) (lists : Lists) (a i j : ℕ) (table lengths : Bor (List ℕ)) (x y : Result RecordedPath Refusal) (u v : _)
    → recorded.Post-named κs (lists, (a, (i, (j, (table, (lengths, tt)))))) x u
    → recorded.Post-named κs (lists, (a, (i, (j, (table, (lengths, tt)))))) y v → x ≡ y
recorded_settled κs lists a i j table lengths x y u v p q =
    answer_settled
    (λ r s g h.
    path_same r s (held_same r.held s.held (g.0 ∙ sym h.0) (g.1.0 ∙ sym h.1.0) (g.1.1.0 ∙ sym h.1.1.0)) (g.1.1.1 ∙ sym h.1.1.1))
    (λ r g. rw (g.0, g.1.0, g.1.1.0, g.1.1.1) at r.given)
    x y p.ok p.err q.ok q.err
