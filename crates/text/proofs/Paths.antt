-- The text of a path from its parts. Assumes nothing.
use mathlib.Core.Path.{◌≡◌, refl, ap, ◌∙◌}
use mathlib.Core.List.{List, [], ◌∷◌, ◌++◌, append_assoc, append-nil}
use Prim.Native.Nat.{ℕ}
use Rattle.text.specs.Text.{labelled, path_text}

pub path_append : (p q : List ℕ) → path_text (p ++ q) ≡ path_text p ++ path_text q
unfolding path_text
path_append [] q = refl
path_append (e ∷ p) q = ap (λ w. labelled " " e ++ w) (path_append p q) ∙ simp append_assoc

-- one edge more at its end
pub path_more : (p : List ℕ) (e : ℕ) → path_text (p ++ (e ∷ [])) ≡ path_text p ++ labelled " " e
unfolding path_text
path_more p e = path_append p (e ∷ []) ∙ ap (λ w. path_text p ++ w) (append-nil _)
