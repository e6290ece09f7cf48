-- Laws of costs: how they are spelled, and one law for each way out of `numeral_at` and `cost_form`.
-- Assumes nothing.
use mathlib.Core.Path.{◌≡◌, refl, sym, ◌∙◌}
use mathlib.Core.Bool.{Bool, true, false, and-false}
use mathlib.Core.List.{List, [], ◌∷◌}
use mathlib.Core.Logic.{inl, inr}
use mathlib.Core.Option.{Option}
use Rattle.std.specs.Prelude as code
use Rattle.std.specs.Prelude.{Some, None}
use Rattle.std.specs.Bool.{then_some}
use Prim.Native.Nat.{ℕ, ◌-◌}
use native.Mathlib.Omega.{arith}
use lib.ListN.{take, drop}
use lib.Seq.{slice}
use Rattle.words.specs.Choice.{pick}
use Rattle.text.specs.Tokens.{Token, tokens}
use Rattle.text.specs.Words.{begins_with_letter}
use Rattle.text.specs.Numbers.{is_number}
use Rattle.text.specs.Scanning.{Found, NumberRead, begins_word, begins_name, NamedNext}
use Rattle.text.specs.declared.tokens.Next.TheVariants.{Word}
use Rattle.text.proofs.Slices.{part_slice}
use Rattle.text.proofs.TokenLaws.{word-le}
use Rattle.formulas.specs.Items.{prepend}
use Rattle.grammar.specs.Line.{Line, line_tokens, is_cost, is_line}
use Rattle.grammar.specs.LineOf.{flat_words, cost_line, with_words}
use Rattle.grammar.specs.Parsing.{Unnumbered, NumeralAt, NumeralFound, ends_line, FormAfter}
use Rattle.grammar.specs.declared.numeral.Numeral.{Numeral}
use Rattle.grammar.specs.declared.line.Form.TheVariants.{Cost}
use Rattle.grammar.proofs.Forms.{either}
use Rattle.grammar.proofs.Flat.{Words, Wordless, Followed, flat_tokens, LineSpells, flat_word, word_wordless}
use Rattle.grammar.proofs.Flat.{ended-words, unended-words, unnamed_form}

-- What is read is spelled

three_spell : (w p s : List ℕ) (b : Bool) → is_cost w p s ≡ b
    → LineSpells 7 (w ∷ (p ∷ (s ∷ []))) (pick b (Line.cost w p s) Line.no_form)
unfolding flat_tokens is_line line_tokens
three_spell w p s true e = inr (e, refl)
three_spell w p s false e = inl refl

pub cost-spells : (ws : List (List ℕ)) → LineSpells 7 ws (cost_line ws)
cost-spells [] = inl refl
cost-spells (w ∷ []) = inl refl
cost-spells (w ∷ (p ∷ [])) = inl refl
cost-spells (w ∷ (p ∷ (s ∷ []))) = three_spell w p s (is_cost w p s) refl
cost-spells (w ∷ (p ∷ (s ∷ (v ∷ ws)))) = inl refl

-- What is spelled is read

pub cost-words : (w p s : List ℕ) → is_cost w p s ≡ true
    → with_words 7 (flat_words (Token.word w ∷ (Token.word p ∷ (Token.word s ∷ (Token.closing ∷ [])))))
    ≡ Line.cost w p s
unfolding flat_words
cost-words w p s h = rw h

-- What is no cost

wrong_cost : (w p s : List ℕ) → is_cost w p s ≡ false → cost_line (w ∷ (p ∷ (s ∷ []))) ≡ Line.no_form
wrong_cost w p s h = rw h

unnamed_line : (w : List ℕ) → begins_with_letter w ≡ false → (x : Words) → with_words 7 (prepend w x) ≡ Line.no_form
unnamed_line w h Option.none = refl
unnamed_line w h (Option.some []) = refl
unnamed_line w h (Option.some (p ∷ [])) = refl
unnamed_line w h (Option.some (p ∷ (s ∷ []))) = wrong_cost w p s (rw h)
unnamed_line w h (Option.some (p ∷ (s ∷ (v ∷ ws)))) = refl

unpriced_line : (w : List ℕ) (x : Words) → Unnumbered x → with_words 7 (prepend w x) ≡ Line.no_form
unpriced_line w Option.none h = refl
unpriced_line w (Option.some []) h = refl
unpriced_line w (Option.some (p ∷ [])) h = refl
unpriced_line w (Option.some (p ∷ (s ∷ []))) h = wrong_cost w p s (rw (h, and-false))
unpriced_line w (Option.some (p ∷ (s ∷ (v ∷ ws)))) h = refl

half_priced_line : (w p : List ℕ) (x : Words) → Unnumbered x → with_words 7 (prepend w (prepend p x)) ≡ Line.no_form
half_priced_line w p Option.none h = refl
half_priced_line w p (Option.some []) h = refl
half_priced_line w p (Option.some (s ∷ [])) h = wrong_cost w p s (rw (h, and-false))
half_priced_line w p (Option.some (s ∷ (v ∷ ws))) h = refl

-- three words

module _ (w p s : List ℕ) where
  abbrev behind : Words → Line
  behind x = with_words 7 (prepend w (prepend p (prepend s x)))

  unended : (x : Words) → Followed x → behind x ≡ Line.no_form
  unended Option.none h = refl
  unended (Option.some []) h = absurd h
  unended (Option.some (v ∷ ws)) h = refl

-- The ways out of `numeral_at`

wordless_unnumbered : (x : Words) → Wordless x → Unnumbered x
wordless_unnumbered x (inl e) = rw e tt
wordless_unnumbered x (inr e) = rw e tt

word_unnumbered : (w : List ℕ) (x : Words) → is_number w ≡ false → Unnumbered (prepend w x)
word_unnumbered w Option.none h = tt
word_unnumbered w (Option.some ws) h = h

pub numeral_wordless : (l : List ℕ) (at : ℕ) → begins_word (tokens (drop at l)) ≡ false → NumeralFound l at None
numeral_wordless l at h = record { numeral_is = wordless_unnumbered _ (word_wordless (tokens (drop at l)) h) }

-- by what number the word is, as the code reads it
module _ {l : List ℕ} {at a e : ℕ} (t : Found l at (Word a e)) where
  read-as : {x : code.Option ℕ} → NumberRead (take (e - a) (drop a l)) x → NumberRead (slice a e l) x
  read-as d = rw (part_slice l a e (word-le t refl)) at d

  pub numeral_none : NumberRead (take (e - a) (drop a l)) None → NumeralFound l at None
  numeral_none d = record {
    numeral_is = rw (flat_word t)
        (word_unnumbered (slice a e l) (flat_words (tokens (drop e l))) (read-as d).number_is);
  }

  pub numeral_found : {v : ℕ} → NumberRead (take (e - a) (drop a l)) (Some v)
      → NumeralFound l at (Some (record { value = v; next = e }))
  numeral_found d =
      let k = (read-as d).number_is in
      record {
        numeral_is =
            record { digits = slice a e l; words_are = flat_word t; is-number = k.0; value-is = k.1 };
      }

-- The ways out of `cost_form`

pub cost_unnamed : (l : List ℕ) (at : ℕ) → begins_name (tokens (drop at l)) ≡ false → FormAfter l at 7 None
cost_unnamed l at h = unnamed_form 7 (omega arith) refl unnamed_line l at h

module _ {l : List ℕ} {at a e : ℕ} (n : NamedNext l at a e) where
  pub cost_unpriced : NumeralFound l e None → FormAfter l at 7 None
  cost_unpriced p = record {
    form-is = rw (flat_word n.found)
        (unpriced_line (slice a e l) (flat_words (tokens (drop e l))) p.numeral_is);
  }

  module _ {p : Numeral} (u : NumeralFound l e (Some p)) where
    price-at : NumeralAt l e p.value p.next
    price-at = u.numeral_is

    pub cost-half_priced : NumeralFound l p.next None → FormAfter l at 7 None
    cost-half_priced s = record {
      form-is = rw (flat_word n.found, price-at.words_are)
          (half_priced_line (slice a e l) price-at.digits (flat_words (tokens (drop p.next l))) s.numeral_is);
    }

    module _ {s : Numeral} (v : NumeralFound l p.next (Some s)) where
      supplement-at : NumeralAt l p.next s.value s.next
      supplement-at = v.numeral_is

      abbrev three : List Token → Line
      three ts = behind (slice a e l) price-at.digits supplement-at.digits (flat_words ts)

      three-words : (z : Line) → three (tokens (drop s.next l)) ≡ z
          → with_words 7 (flat_words (tokens (drop at l))) ≡ z
      three-words z k = rw (flat_word n.found, price-at.words_are, supplement-at.words_are) k

      cost-unended : ends_line l s.next ≡ false → FormAfter l at 7 None
      unfolding ends_line
      cost-unended h = record {
        form-is = three-words Line.no_form
            (unended (slice a e l) price-at.digits supplement-at.digits
            (flat_words (tokens (drop s.next l))) (unended-words (tokens (drop s.next l)) h));
      }

      cost-ended : ends_line l s.next ≡ true → FormAfter l at 7 (Some (Cost a e p.value s.value))
      unfolding ends_line
      cost-ended h =
          let c = Line.cost (slice a e l) price-at.digits supplement-at.digits in
          let made : three (tokens (drop s.next l)) ≡ c =
          rw (ended-words (tokens (drop s.next l)) h)
          (rw (n.lettered, price-at.is-number, supplement-at.is-number)) in
          record {
            form-is = (
              (n.found.inside.1, n.found.inside.2),
              record {
                price = price-at.digits;
                supplement = supplement-at.digits;
                price-is = price-at.value-is;
                supplement-is = supplement-at.value-is;
                line-is = three-words c made;
              },
            );
          }

      pub cost_found : {b : Bool} → b ≡ ends_line l s.next
          → FormAfter l at 7 (then_some b (Cost a e p.value s.value))
      cost_found {b} q =
          either (FormAfter l at 7) (Cost a e p.value s.value) b (λ h. cost-ended (sym q ∙ h))
          (λ h. cost-unended (sym q ∙ h))
