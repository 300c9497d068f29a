-- The promise settles the answer and every lent word: it is three equations, so two outcomes that meet it are equal. Assumes nothing.
use mathlib.Core.List.{List}
use mathlib.Core.Path.{◌≡◌, sym, ap, ◌∙◌}
use Prim.Native.Nat.{ℕ}
use lib.ListN.{length}
use Rattle.std.specs.Prelude.{Result}
use Rattle.words.specs.Refusals.{Refusal}
use Rattle.deck.specs.Reads.{read_check, rules_of, edges_of, header_if, written}
use Rattle.deck.specs.declared.Header.{Header}

-- an answer and the two lists as they are left
pub record Outcome : Type 0 where
  pub answer : Result Header Refusal
  pub rules : List ℕ
  pub edges : List ℕ

abbrev outcome : Result Header Refusal → List ℕ → List ℕ → Outcome
outcome a r e = record { answer = a; rules = r; edges = e }

-- what `read` promises of the deck d, lent the lists rules and edges
pub record Promised (d rules edges : List ℕ) (o : Outcome) : Type 0 where
  pub answer : o.answer ≡ header_if (read_check d (length rules) (length edges)) d
  pub rules_left : o.rules ≡ written (read_check d (length rules) (length edges)) (rules_of d) rules
  pub edges_left : o.edges ≡ written (read_check d (length rules) (length edges)) (edges_of d) edges

pub settled : (d rules edges : List ℕ) (o p : Outcome) → Promised d rules edges o → Promised d rules edges p → o ≡ p
settled d rules edges o p f g =
    ap (λ (a : Result Header Refusal). outcome a o.rules o.edges) (f.answer ∙ sym g.answer)
    ∙ ap (λ (r : List ℕ). outcome p.answer r o.edges) (f.rules_left ∙ sym g.rules_left)
    ∙ ap (outcome p.answer p.rules) (f.edges_left ∙ sym g.edges_left)
