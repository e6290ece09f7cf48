-- A formula with the names of its atoms: encoded again it is the formula, and its names are those of atoms.
--
--   DecodedAs at P f s   the sentence s, whose names pass P, is the formula f by the lookup at
-- Assumes nothing.
use mathlib.Core.Path.{◌≡◌, sym, ap, ◌∙◌}
use mathlib.Core.Bool.{true, false≢true}
use mathlib.Core.List.{List}
use Prim.Native.Nat.{ℕ, ◌+◌, ◌-◌, ◌<◌}
use native.Mathlib.Omega.{arith}
use borrow.Author.Tests.{ltb-true}
use Rattle.logic.specs.Formula.{Formula, depth, over}
use Rattle.logic.specs.Nodes.{joined}
use Rattle.text.specs.Words.{begins_with_letter}
use Rattle.text.proofs.ByteLaws.{and_true_both}
use Rattle.text.proofs.Each.{Each, each_append}
use Rattle.formulas.specs.Sentence.{Sentence, sentence_names, is_sentence, depth_of}
use Rattle.formulas.proofs.NameSentence.{name-is-sentence, name-names}
use Rattle.formulas.proofs.FormSentence.{negation-is-sentence, negation_of_names, joined-is-sentence, joined-names}
use Rattle.store.specs.Saying.{encoded_by}
use Rattle.store.proofs.Encoded.{encoded-name, encoded-negation, encoded-joined, encoded-depth}
use Rattle.store.proofs.Lookups.{Finds}
use Rattle.writing.specs.Lines.{decoded}

pub record DecodedAs (at : List ℕ → ℕ) (P : List ℕ → Type 0) (f : Formula) (s : Sentence) : Type 0 where
  pub back : encoded_by at s ≡ f
  pub is-sentence : is_sentence s ≡ true
  pub names : Each P (sentence_names s)

module _ {at : List ℕ → ℕ} {P : List ℕ → Type 0} where
  pub decoded-depth : {f : Formula} {s : Sentence} → DecodedAs at P f s → depth_of s ≡ depth f
  decoded-depth {f} {s} d = sym (encoded-depth at s) ∙ ap depth d.back

  negated : {f : Formula} {s : Sentence} → DecodedAs at P f s
      → DecodedAs at P (Formula.negation f) (Sentence.negation s)
  negated {f} {s} d = record {
    back = encoded-negation at s ∙ ap Formula.negation d.back;
    is-sentence = negation-is-sentence s ∙ d.is-sentence;
    names = rw (negation_of_names s) d.names;
  }

  both : (k : ℕ) {f g : Formula} {s t : Sentence} → k < 4 → DecodedAs at P f s → DecodedAs at P g t
      → DecodedAs at P (joined k f g) (Sentence.joined (65 + k) s t)
  both k {f} {g} {s} {t} h d e =
      let m : 65 + k - 65 ≡ k = omega arith in
      record {
        back = encoded-joined at (65 + k) s t ∙ rw (m, d.back, e.back);
        is-sentence = joined-is-sentence s t k h d.is-sentence e.is-sentence;
        names = rw (joined-names s t (65 + k))
            (each_append P (sentence_names s) (sentence_names t) d.names e.names);
      }

-- the names of n atoms, which begin with a letter
module _ (at : List ℕ → ℕ) (name : ℕ → List ℕ) (n : ℕ) (P : List ℕ → Type 0) (found : Finds at name n)
    (lettered : (a : ℕ) → a < n → begins_with_letter (name a) ≡ true) (named : (a : ℕ) → a < n → P (name a)) where
  one : (a : ℕ) → a < n → DecodedAs at P (Formula.atom a) (Sentence.name (name a))
  one a h = record {
    back = encoded-name at (name a) ∙ ap Formula.atom (found a h);
    is-sentence = name-is-sentence (name a) ∙ lettered a h;
    names = rw (name-names (name a)) (named a h, tt);
  }

  pub decoded_as : (f : Formula) → over n f ≡ true → DecodedAs at P f (decoded name f)
  unfolding over decoded
  decoded_as Formula.truth h = absurd (false≢true h)
  decoded_as Formula.falsity h = absurd (false≢true h)
  decoded_as (Formula.atom a) h = one a (ltb-true a n h)
  decoded_as (Formula.negation f) h = negated (decoded_as f h)
  decoded_as (Formula.conjunction f g) h =
      let k = and_true_both _ _ h in both 0 (omega arith) (decoded_as f k.0) (decoded_as g k.1)
  decoded_as (Formula.disjunction f g) h =
      let k = and_true_both _ _ h in both 1 (omega arith) (decoded_as f k.0) (decoded_as g k.1)
  decoded_as (Formula.implication f g) h =
      let k = and_true_both _ _ h in both 2 (omega arith) (decoded_as f k.0) (decoded_as g k.1)
  decoded_as (Formula.equivalence f g) h =
      let k = and_true_both _ _ h in both 3 (omega arith) (decoded_as f k.0) (decoded_as g k.1)
