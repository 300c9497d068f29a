-- A call that makes a value of what passes a check settles its answer: two answers that meet its contract are equal. Assumes nothing.
use mathlib.Core.Path.{◌≡◌, sym, ap, ◌∙◌}
use mathlib.Core.HLevel.{is_prop→PathP}
use mathlib.Core.List.{List}
use Prim.Native.Nat.{ℕ}
use Rattle.std.specs.Prelude.{Result, Ok, Err, IfOk, IfErr}
use Rattle.std.specs.Borrow.{Bor}
use Rattle.std.proofs.Props.{props}
use Rattle.words.specs.Refusals.{Refusal, Check, Good}
use Rattle.words.proofs.Refusals.{good_bad, bad_same}
use Rattle.numbers.specs.declared.Numbers.{Numbers}
use Rattle.lists.specs.Lists.{lists_check}
use Rattle.lists.specs.declared.Lists.{Lists}
use Rattle.lists.proofs.Lists.new.Reads as new

-- ---- any such call

-- that a check passes has one proof at most
pub passes_once : {check : Check} → IsProp (check ≡ Good)
passes_once = hlevel props

-- Ok holds what is given, of which there is one, and only where the check passes; Err holds the check's refusal: that settles the answer
pub answer_settled : {T : Type 0} {check : Check} {given : T → Type 0} → ((v w : T) → given v → given w → v ≡ w)
    → ((v : T) → given v → check ≡ Good) → (x y : Result T Refusal)
    → IfOk x given → IfErr x (λ r. check ≡ Err r) → IfOk y given → IfErr y (λ r. check ≡ Err r) → x ≡ y
answer_settled one passes (Ok v) (Ok w) g _ h _ = ap Ok (one v w g h)
answer_settled one passes (Ok v) (Err e) g _ _ f = absurd (good_bad (sym (passes v g) ∙ f))
answer_settled one passes (Err e) (Ok w) _ f h _ = absurd (good_bad (sym (passes w h) ∙ f))
answer_settled one passes (Err d) (Err e) _ f _ g = ap Err (bad_same (sym f ∙ g))

-- ---- the lists

-- lists are their numbers, rules and edges
lists_same : (l m : Lists) → l.numbers ≡ m.numbers → l.rules ≡ m.rules → l.edges ≡ m.edges → l ≡ m
lists_same l m n r e = λ i. record {
  numbers = n i;
  rules = r i;
  edges = e i;
  passed = is_prop→PathP (λ j. lists_check (n j) (r j).now (e j).now ≡ Good) (λ j. passes_once) l.passed m.passed i;
}

-- `Lists::new`. `new.Post-named` is its contract, clause by clause: of the lifetimes, the arguments, the answer, and the arguments at the exit
pub lists_settled : (κs : _) (numbers : Numbers) (rules edges : Bor (List ℕ)) (x y : Result Lists Refusal) (u v : _)
    → new.Post-named κs (numbers, (rules, (edges, tt))) x u → new.Post-named κs (numbers, (rules, (edges, tt))) y v → x ≡ y
lists_settled κs numbers rules edges x y u v p q =
    answer_settled
    (λ l m g h. lists_same l m (g.0 ∙ sym h.0) (g.1.0 ∙ sym h.1.0) (g.1.1 ∙ sym h.1.1))
    (λ l g. rw (g.0, g.1.0, g.1.1) at l.passed)
    x y p.ok p.err q.ok q.err
