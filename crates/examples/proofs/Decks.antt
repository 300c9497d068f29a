-- The two decks of the examples: the one of the sample report is accepted, and with its last edge's kind 12 it is not. Assumes nothing.
use mathlib.Core.List.{List, [], ◌∷◌}
use mathlib.Core.Path.{◌≡◌, refl, sym, ◌∙◌}
use Prim.Native.Nat.{ℕ, zero, suc, ◌+◌, ◌<◌}
use native.Mathlib.Omega.{arith}
use lib.ListN.{get_or, drop}
use lib.Seq.{get_or-drop}
use Rattle.words.specs.Bytes.{le_at}
use Rattle.words.specs.First.{first}
use Rattle.words.specs.Tab.{tab}
use Rattle.words.specs.Refusals.{refused, must, ◌and_then◌, scan, Good}
use Rattle.words.proofs.Refusals.{and_stop, and_next, scan_good}
use Rattle.words.specs.declared.Reason.TheVariants.{UnknownKind}
use Rattle.numbers.specs.Numbers.{in_limits, room_check}
use Rattle.lists.specs.Lists.{right_rule}
use Rattle.deck.specs.Blocks.{blocks, sum_at, right_sum, right_order, total, first_of, record_at}
use Rattle.deck.specs.Reads.{size_check, frame_check, header_check, fill_check, totals_check, entry_check, rule_record_check, entry_of, edge_record_check, deck_check, read_check, rules_of, edges_of}
use Rattle.deck.specs.Stages.{records_check}
use Rattle.examples.specs.Examples.{S, deck_edges, block, deck, report, unmapped, Holds, reading, refusal}

-- ---- a sum that computes in one pass

front : ℕ → List ℕ → ℕ
front zero l = 0
front (suc n) [] = 0
front (suc n) (x ∷ l) = x + front n l

front_more : (n : ℕ) (l : List ℕ) → front (suc n) l ≡ front n l + get_or l n 0
unfolding front
front_more zero [] = refl
front_more (suc n) [] = refl
front_more zero (x ∷ l) = omega arith
front_more (suc n) (x ∷ l) = omega (arith, front_more n l)

sum_front : (n : ℕ) (d : List ℕ) (p : ℕ) → sum_at n d p ≡ front n (drop p d)
unfolding sum_at front
sum_front zero d p = refl
sum_front (suc n) d p = rw (sum_front n d p, ← get_or-drop p d n 0) (sym (front_more n (drop p d)))

-- ---- stage by stage, both decks at once

frames : (b : ℕ) → b < 4 → (frame_check report b ≡ Good) × (frame_check unmapped b ≡ Good)
unfolding report unmapped deck block front le_at must ◌and_then◌ right_sum right_order
frames zero h = (rw (sum_front 508 report 0), rw (sum_front 508 unmapped 0))
frames (suc zero) h = (rw (sum_front 508 report 512), rw (sum_front 508 unmapped 512))
frames (suc (suc zero)) h = (rw (sum_front 508 report 1024), rw (sum_front 508 unmapped 1024))
frames (suc (suc (suc zero))) h = (rw (sum_front 508 report 1536), rw (sum_front 508 unmapped 1536))
frames (suc (suc (suc (suc b)))) h = absurd (omega arith)

fills : (b : ℕ) → b < 4 → (fill_check report b ≡ Good) × (fill_check unmapped b ≡ Good)
unfolding report unmapped deck block front must fill_check
fills zero h = (rw (sum_front 490 report 18), rw (sum_front 490 unmapped 18))
fills (suc zero) h = (rw (sum_front 480 report 540), rw (sum_front 480 unmapped 540))
fills (suc (suc zero)) h = (rw (sum_front 462 report 1070), rw (sum_front 462 unmapped 1070))
fills (suc (suc (suc zero))) h = (rw (sum_front 474 report 1570), rw (sum_front 474 unmapped 1570))
fills (suc (suc (suc (suc b)))) h = absurd (omega arith)

-- the checks up to 5 pass, given those of its blocks
module _ (d : List ℕ) (f : scan (frame_check d) (blocks d) ≡ Good) (g : scan (fill_check d) (blocks d) ≡ Good) where
  from_5 : size_check d ≡ Good → header_check d ≡ Good → deck_check d ≡ (totals_check d and_then records_check d)
  unfolding deck_check
  from_5 s h = and_next s ∙ and_next f ∙ and_next h ∙ and_next g

pub report_read : Holds (reading report (record { nodes = 5; nonterminals = 4; labels = 3; entries = 4; rules = 7; edges = 5; query = 0 }) S deck_edges)
unfolding S deck_edges report deck block le_at first must ◌and_then◌ scan tab in_limits right_rule room_check total first_of record_at size_check header_check totals_check entry_check rule_record_check entry_of edge_record_check read_check rules_of edges_of
report_read =
    (rw (from_5 report ((scan_good (frame_check report) 4).1 (λ b h. (frames b h).0)) ((scan_good (fill_check report) 4).1 (λ b h. (fills b h).0)) refl refl), refl, refl, refl)

pub unmapped_refused : Holds (refusal unmapped (refused UnknownKind 4))
unfolding unmapped deck block le_at first must ◌and_then◌ scan in_limits right_rule total first_of record_at size_check header_check totals_check entry_check rule_record_check entry_of edge_record_check read_check
unmapped_refused rules edges =
    and_stop _
    (from_5 unmapped ((scan_good (frame_check unmapped) 4).1 (λ b h. (frames b h).1)) ((scan_good (fill_check unmapped) 4).1 (λ b h. (fills b h).1)) refl refl)
