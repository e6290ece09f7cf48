-- The tokens of a formula by the node that it begins with: a name, "not" with its operand, or a form with its two.
-- Assumes nothing.
use mathlib.Core.Path.{◌≡◌, sym, ap, ◌∙◌}
use mathlib.Core.List.{List, [], ◌∷◌, ◌++◌, append_assoc}
use mathlib.Core.Logic.{⊎_elim}
use Prim.Native.Nat.{ℕ, zero, suc, ◌+◌, ◌-◌, ◌≤◌, ◌<◌}
use native.Mathlib.Numerals.{add-one}
use native.Mathlib.Omega.{arith}
use lib.ListN.{length, get_or, drop, drop_of_length-le}
use lib.Seq.{drop-cons}
use Rattle.words.proofs.Tests.{lt-or-le}
use Rattle.logic.specs.Formula.{Formula}
use Rattle.logic.specs.Nodes.{Spelling, spelled, joined}
use Rattle.logic.proofs.Spelling.{Front, front}
use Rattle.text.specs.Tokens.{Token}
use Rattle.formulas.specs.Sentence.{form_words, tokens_of}
use Rattle.formulas.proofs.NameSentence.{name-tokens}
use Rattle.formulas.proofs.FormSentence.{negation-tokens, joined-tokens}
use Rattle.writing.specs.Lines.{decoded}

-- what the form with node k begins with
abbrev pub opener : ℕ → List Token
opener k = Token.opening ∷ (Token.word (get_or form_words (k - 64) []) ∷ [])

abbrev pub closer : List Token
closer = Token.closing ∷ []

-- ---- the nodes from a place on
module _ (ks : List ℕ) (at : ℕ) {f : Formula} {fs : List Formula}
    (e : spelled (drop at ks) ≡ Spelling.formulas (f ∷ fs)) where
  pub formula-within : at < length ks
  unfolding spelled
  formula-within =
      ⊎_elim (λ (h : at < length ks). h)
      (λ (h : length ks ≤ at).
      let q : Spelling.formulas [] ≡ Spelling.formulas (f ∷ fs) = rw (drop_of_length-le ks h) at e in
      let z : ◌≡◌ {A = ℕ} 0 1 = cc in omega arith)
      (lt-or-le at (length ks))

  pub formula-front : Front (get_or ks at 0) (spelled (drop (at + 1) ks)) (f ∷ fs)
  unfolding spelled
  formula-front =
      front (get_or ks at 0) (spelled (drop (at + 1) ks)) (f ∷ fs)
      (sym (rw (add-one, drop-cons ks at 0 formula-within)) ∙ e)

module _ (name : ℕ → List ℕ) where
  abbrev pub tokens : Formula → List Token
  tokens f = tokens_of (decoded name f)

  not-tokens : (f : Formula) → tokens (Formula.negation f) ≡ opener 64 ++ (tokens f ++ closer)
  unfolding decoded
  not-tokens f = negation-tokens (decoded name f)

  form-tokens : (k : ℕ) (f g : Formula) → 65 ≤ k → k ≤ 68
      → tokens (joined (k - 65) f g) ≡ opener k ++ (tokens f ++ (tokens g ++ closer))
  unfolding decoded
  form-tokens k f g lo hi =
      go (k - 65) (omega arith) ∙ ap (λ (l : List Token). opener k ++ l) (append_assoc (tokens f) (tokens g) closer)
    where
      go : (i : ℕ) → k ≡ i + 65 → tokens (joined i f g) ≡ opener k ++ ((tokens f ++ tokens g) ++ closer)
      go zero e = rw e (joined-tokens (decoded name f) (decoded name g) 65)
      go (suc zero) e = rw e (joined-tokens (decoded name f) (decoded name g) 66)
      go (suc (suc zero)) e = rw e (joined-tokens (decoded name f) (decoded name g) 67)
      go (suc (suc (suc zero))) e = rw e (joined-tokens (decoded name f) (decoded name g) 68)
      go (suc (suc (suc (suc i)))) e = absurd (omega arith)

  -- ---- a formula f in front of the formulas fs that begins with the node k; s is what stands behind k

  -- a name
  module _ {k : ℕ} {s : Spelling} {f : Formula} {fs : List Formula} where
    pub name-parts : k < 64 → Front k s (f ∷ fs) → (s ≡ Spelling.formulas fs) × (tokens f ≡ (Token.word (name k) ∷ []))
    unfolding decoded
    name-parts l (Front.of_name gs h es ef) =
        let e : f ≡ Formula.atom k = cc in (cc, ap tokens e ∙ name-tokens (name k))
    name-parts l (Front.of_not g gs h es ef) = absurd (omega arith)
    name-parts l (Front.of_form g h gs lo hi es ef) = absurd (omega arith)

  -- "not" with its operand
  pub record NotParts (k : ℕ) (s : Spelling) (f : Formula) (fs : List Formula) : Type 0 where
    pub operand : Formula
    pub spelling_is : s ≡ Spelling.formulas (operand ∷ fs)
    pub tokens_are : tokens f ≡ opener k ++ (tokens operand ++ closer)

  -- a form with its two operands
  pub record FormParts (k : ℕ) (s : Spelling) (f : Formula) (fs : List Formula) : Type 0 where
    pub left : Formula
    pub right : Formula
    pub below : k ≤ 68
    pub spelling_is : s ≡ Spelling.formulas (left ∷ (right ∷ fs))
    pub tokens_are : tokens f ≡ opener k ++ (tokens left ++ (tokens right ++ closer))

  -- either of the two, by its first operand
  pub record Parts (k : ℕ) (s : Spelling) (f : Formula) : Type 0 where
    pub first : Formula
    pub others : List Formula
    pub later : List Token
    pub below : k ≤ 68
    pub spelling_is : s ≡ Spelling.formulas (first ∷ others)
    pub tokens_are : tokens f ≡ opener k ++ (tokens first ++ later)

  module _ {k : ℕ} {s : Spelling} {f : Formula} {fs : List Formula} where
    pub not-parts : k ≡ 64 → Front k s (f ∷ fs) → NotParts k s f fs
    not-parts l (Front.of_name gs h es ef) = absurd (omega arith)
    not-parts l (Front.of_not g gs h es ef) =
        let e : f ≡ Formula.negation g = cc in
        record { operand = g; spelling_is = cc; tokens_are = ap tokens e ∙ rw h (not-tokens g) }
    not-parts l (Front.of_form g h gs lo hi es ef) = absurd (omega arith)

    pub form-parts : 65 ≤ k → Front k s (f ∷ fs) → FormParts k s f fs
    form-parts l (Front.of_name gs h es ef) = absurd (omega arith)
    form-parts l (Front.of_not g gs h es ef) = absurd (omega arith)
    form-parts l (Front.of_form g h gs lo hi es ef) =
        let e : f ≡ joined (k - 65) g h = cc in
        record {
          left = g;
          right = h;
          below = hi;
          spelling_is = cc;
          tokens_are = ap tokens e ∙ form-tokens k g h lo hi;
        }

    pub some-parts : 64 ≤ k → Front k s (f ∷ fs) → Parts k s f
    some-parts l t = ⊎_elim one two (lt-or-le k 65)
      where
        one : k < 65 → Parts k s f
        one h =
            let i = not-parts (omega arith) t in
            record {
              first = i.operand;
              others = fs;
              later = closer;
              below = omega arith;
              spelling_is = i.spelling_is;
              tokens_are = i.tokens_are;
            }

        two : 65 ≤ k → Parts k s f
        two h =
            let i = form-parts h t in
            record {
              first = i.left;
              others = i.right ∷ fs;
              later = tokens i.right ++ closer;
              below = i.below;
              spelling_is = i.spelling_is;
              tokens_are = i.tokens_are;
            }
