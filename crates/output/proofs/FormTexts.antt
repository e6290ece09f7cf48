-- Laws of forms and lines: the pieces that the code writes, an opening, the parts and what closes it, and lengths.
-- Assumes nothing.
use mathlib.Core.Path.{◌≡◌, refl, ap, ◌∙◌}
use mathlib.Core.List.{List, [], ◌∷◌, ◌++◌, append_assoc, append-nil}
use Prim.Native.Nat.{ℕ, ◌+◌}
use native.Mathlib.Omega.{arith}
use lib.ListN.{length, length-append}
use Rattle.text.specs.Bytes.{bytes}
use Rattle.output.specs.Forms.{spaced, form, line}

-- what closes a line
abbrev pub line_end : List ℕ
line_end = bytes ")\n"

pub spaced_nil : spaced [] ≡ []
unfolding spaced
spaced_nil = refl

pub spaced_cons : (p : List ℕ) (ps : List (List ℕ)) → spaced (p ∷ ps) ≡ spaced (p ∷ []) ++ spaced ps
unfolding spaced
spaced_cons p ps = ap (λ (l : List ℕ). bytes " " ++ l) (simp append_assoc)

pub spaced-form : (w p : List ℕ) → spaced (form w (p ∷ []) ∷ []) ≡ (bytes " (" ++ (w ++ bytes " ")) ++ (p ++ bytes ")")
unfolding spaced form
spaced-form w p = ap (λ (l : List ℕ). bytes " (" ++ l) (simp (append_assoc, append-nil))

pub line-parts : (w : List ℕ) (ps : List (List ℕ)) → line w ps ≡ (bytes "(" ++ w) ++ (spaced ps ++ line_end)
unfolding form line
line-parts w ps = ap (λ (l : List ℕ). bytes "(" ++ l) (simp append_assoc)

pub line-one : (w p : List ℕ) → line w (p ∷ []) ≡ (bytes "(" ++ (w ++ bytes " ")) ++ (p ++ line_end)
unfolding spaced
line-one w p = line-parts w (p ∷ []) ∙ ap (λ (l : List ℕ). bytes "(" ++ l) (rw (append-nil p, append_assoc w))

pub line-two : (w p q : List ℕ)
    → line w (p ∷ q ∷ []) ≡ (bytes "(" ++ (w ++ bytes " ")) ++ (p ++ (bytes " " ++ (q ++ line_end)))
unfolding spaced
line-two w p q =
    line-parts w (p ∷ q ∷ []) ∙ ap (λ (l : List ℕ). bytes "(" ++ l) (rw (append-nil q, append_assoc p, append_assoc w))

pub spaced-parts : (p : List ℕ) (ps : List (List ℕ)) → spaced (p ∷ ps) ≡ bytes " " ++ (p ++ spaced ps)
unfolding spaced
spaced-parts p ps = refl

pub spaced-more : (p : List ℕ) (ps : List (List ℕ)) → length (spaced (p ∷ ps)) ≡ 1 + length p + length (spaced ps)
unfolding spaced
spaced-more p ps = omega (arith, length-append p (spaced ps))

pub spaced-one : (p : List ℕ) → length (spaced (p ∷ [])) ≡ 1 + length p
unfolding spaced
spaced-one p = omega (arith, length-append p [])

pub spaced-two : (p q : List ℕ) → length (spaced (p ∷ (q ∷ []))) ≡ 2 + length p + length q
spaced-two p q = omega (arith, spaced-more p (q ∷ []), spaced-one q)

pub form-length : (w : List ℕ) (ps : List (List ℕ)) → length (form w ps) ≡ 2 + length w + length (spaced ps)
unfolding form
form-length w ps = omega (arith, length-append w (spaced ps ++ bytes ")"), length-append (spaced ps) (bytes ")"))

pub line-length : (w : List ℕ) (ps : List (List ℕ)) → length (line w ps) ≡ 3 + length w + length (spaced ps)
unfolding line
line-length w ps = omega (arith, length-append (form w ps) (bytes "\n"), form-length w ps)
