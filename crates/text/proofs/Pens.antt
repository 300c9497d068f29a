-- Laws of a pen. Assumes nothing.
use mathlib.Core.Path.{◌≡◌, refl, sym, ap, ◌∙◌}
use mathlib.Core.List.{List, [], ◌∷◌, ◌++◌}
use Prim.Native.Nat.{ℕ, suc, ◌+◌, ◌-◌, ◌≤◌, min}
use native.Mathlib.Nat.{zero-add, add-zero}
use native.Mathlib.Omega.{arith}
use lib.Dec.{leb}
use lib.ListN.{length, set, length-append}
use lib.Seq.{sets, sets-eq, length-sets, set_out}
use borrow.Author.Tests.{leb-true, leb-false}
use borrow.Table.Steps.{cases}
use Rattle.std.specs.Borrow.{MutBor}
use Rattle.words.specs.Tab.{over}
use Rattle.text.specs.declared.pen.Pen.{Pen}
use Rattle.text.specs.Pen.{Fresh, Penned}

sets-append : (v w l : List ℕ) (p : ℕ) → sets (sets l p v) (p + length v) w ≡ sets l p (v ++ w)
sets-append [] w l p = rw add-zero
sets-append (x ∷ v) w l p =
    let e : p + suc (length v) ≡ suc p + length v = omega arith in
    rw e (sets-append v w (set l p x) (suc p))

-- past the end nothing is written
sets_out : (w l : List ℕ) (p : ℕ) → length l ≤ p → sets l p w ≡ l
sets_out [] l p h = refl
sets_out (x ∷ w) l p h = rw (set_out l p x h) (sets_out w l (suc p) (omega arith))

-- so the second piece may begin where the first is cut off
sets_cut : (v w l : List ℕ) (p : ℕ) → sets (sets l p v) (p + min (length v) (length l - p)) w ≡ sets l p (v ++ w)
sets_cut v w l p =
    cases (leb (p + length v) (length l))
    (λ t. let h = leb-true _ _ t in
    let e : p + min (length v) (length l - p) ≡ p + length v = omega arith in
    rw e (sets-append v w l p))
    (λ f. let h = leb-false _ _ f in
    sets_out w (sets l p v) _ (omega (arith, length-sets l p v))
    ∙ sym (sets_out w (sets l p v) (p + length v) (omega (arith, length-sets l p v)))
    ∙ sets-append v w l p)

-- nothing written yet
pub penned_none : (p : Pen) → Penned p p []
penned_none p = record { same = refl; is = refl; at = omega arith }

-- the text keeps its length
pub penned_same_length : {p q : Pen} {w : List ℕ} → Penned p q w → length q.text.now ≡ length p.text.now
penned_same_length {p} {w = w} a = ap length a.is ∙ length-sets p.text.now p.at w

-- one piece behind another
pub penned_more : {p q r : Pen} {v w : List ℕ} → Penned p q v → Penned q r w → Penned p r (v ++ w)
penned_more {p} {q} {v = v} {w = w} a b = record {
  same = b.same ∙ a.same;
  is = b.is ∙ rw (a.is, a.at) (sets_cut v w p.text.now p.at);
  at = rw length-append (omega (arith, a.at, b.at, penned_same_length a));
}

-- a whole text from the front on, with room for all of it
pub penned_over : {text : MutBor (List ℕ)} {p q : Pen} {w : List ℕ} → Fresh text p → Penned p q w → length w ≤ length text.now
    → (q.at ≡ length w) × (q.text.now ≡ over w text.now)
unfolding over
penned_over {text} {w = w} f a h =
    let l = ap length f.is in
    let e = rw (f.is, f.at) at a.is in
    (omega (arith, a.at, f.at), e ∙ sets-eq w text.now 0 (omega arith) ∙ rw zero-add)
