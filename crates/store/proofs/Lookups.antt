-- Lookups that agree on the names of literals, or of a formula, give the same words and the same formula;
-- literals by a lookup that finds their names.
--
--   Agree f g w        the lookups f and g find the name w at the same place
--   Finds at name n    the lookup at finds the name of each of n atoms
-- Assumes nothing.
use mathlib.Core.Path.{◌≡◌, refl, ap, ap₂}
use mathlib.Core.Bool.{Bool, true, false, not}
use mathlib.Core.List.{List, [], ◌∷◌, map}
use Prim.Native.Nat.{ℕ, ◌<◌}
use Rattle.words.proofs.Words.{word_ext}
use Rattle.logic.specs.Formula.{Formula}
use Rattle.program.proofs.Atoms.{is_in}
use Rattle.text.proofs.Each.{Each, each-split}
use Rattle.formulas.specs.Sentence.{Sentence, sentence_names}
use Rattle.grammar.specs.Line.{Literal, body_names}
use Rattle.store.specs.Saying.{some_on, atoms_by, encoded_by}
use Rattle.store.specs.Masks.{masks, masks_by}

abbrev pub Agree : (List ℕ → ℕ) → (List ℕ → ℕ) → List ℕ → Type 0
Agree f g w = f w ≡ g w

abbrev pub Finds : (List ℕ → ℕ) → (ℕ → List ℕ) → ℕ → Type 0
Finds at name n = (a : ℕ) → a < n → at (name a) ≡ a

module _ (f g : List ℕ → ℕ) where
  pub on_same : (b : Bool) (l : List Literal) (a : ℕ) → Each (Agree f g) (body_names l)
      → some_on f b l a ≡ some_on g b l a
  unfolding some_on
  on_same b [] a h = refl
  on_same b (Literal.literal n w ∷ l) a h = rw (h.0, on_same b l a h.1)

  pub atoms-same : (b : Bool) (l : List Literal) → Each (Agree f g) (body_names l) → atoms_by f b l ≡ atoms_by g b l
  unfolding atoms_by
  atoms-same b l h = word_ext 64 _ _ (λ a _. on_same b l a h)

  pub masks-same : (l : List Literal) → Each (Agree f g) (body_names l) → masks_by f l ≡ masks_by g l
  masks-same l h = ap₂ masks (atoms-same false l h) (atoms-same true l h)

  pub encoded-same : (s : Sentence) → Each (Agree f g) (sentence_names s) → encoded_by f s ≡ encoded_by g s
  unfolding encoded_by sentence_names
  encoded-same (Sentence.name w) h = ap Formula.atom h.0
  encoded-same (Sentence.negation s) h = ap Formula.negation (encoded-same s h)
  encoded-same (Sentence.joined k s t) h =
      let e = each-split (Agree f g) (sentence_names s) (sentence_names t) h in
      rw (encoded-same s e.0, encoded-same t e.1)

-- the literals on the atoms l, by a lookup that finds their names
pub found-on : (at : List ℕ → ℕ) (name : ℕ → List ℕ) (n : ℕ) → Finds at name n → (b : Bool) (l : List ℕ) (a : ℕ)
    → Each (λ c. c < n) l → some_on at b (map (λ c. Literal.literal b (name c)) l) a ≡ is_in l a
unfolding some_on
found-on at name n f b [] a h = refl
found-on at name n f true (c ∷ l) a h = rw (f c h.0, found-on at name n f true l a h.1)
found-on at name n f false (c ∷ l) a h = rw (f c h.0, found-on at name n f false l a h.1)

pub found-other : (at : List ℕ → ℕ) (name : ℕ → List ℕ) (b : Bool) (l : List ℕ) (a : ℕ)
    → some_on at b (map (λ c. Literal.literal (not b) (name c)) l) a ≡ false
unfolding some_on
found-other at name b [] a = refl
found-other at name true (c ∷ l) a = found-other at name true l a
found-other at name false (c ∷ l) a = found-other at name false l a
