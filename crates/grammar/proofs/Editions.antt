-- Laws of edition lines: the digit of an edition, how they are spelled, and one law for each way out of `edition_form`.
-- Assumes nothing.
use mathlib.Core.Path.{◌≡◌, refl, sym, ◌∙◌}
use mathlib.Core.Bool.{Bool, true, false, true≢false}
use mathlib.Core.List.{List, [], ◌∷◌}
use mathlib.Core.Logic.{inl, inr}
use Prim.Native.Nat.{ℕ, zero, suc, ◌+◌, ◌-◌, ◌≤◌}
use native.Mathlib.Omega.{arith}
use Rattle.std.specs.Prelude.{Some, None}
use lib.ListN.{length, take, drop, get_or}
use lib.Seq.{slice}
use borrow.Author.Tests.{le-leb, ne_eqb}
use Rattle.words.specs.Choice.{pick}
use Rattle.text.specs.Bytes.{all_of}
use Rattle.text.specs.Numbers.{is_number}
use Rattle.text.specs.Tokens.{Token, tokens}
use Rattle.text.specs.Scanning.{Found, begins_word}
use Rattle.text.specs.declared.tokens.Next.TheVariants.{Word}
use Rattle.text.proofs.NumberLaws.{digits_number}
use Rattle.text.proofs.Slices.{part_slice}
use Rattle.text.proofs.TokenLaws.{word-le}
use Rattle.grammar.specs.Line.{Line, line_tokens, is_edition, is_line}
use Rattle.grammar.specs.LineOf.{flat_words, digit_line, edition_line, with_words}
use Rattle.grammar.specs.Parsing.{ends_line, FormAfter}
use Rattle.grammar.specs.declared.line.Form.TheVariants.{Edition}
use Rattle.grammar.proofs.Flat.{flat_tokens, LineSpells, flat_word, ended-words, wordless_form, wrong_form}
use Rattle.grammar.proofs.Flat.{unended-form}

-- The digit of an edition

no_edition : (e : ℕ) → (e ≡ 1 → ⊥) → (e ≡ 2 → ⊥) → is_edition e ≡ false
no_edition e n m = rw (ne_eqb e 1 n, ne_eqb e 2 m)

pub edition_between : (e : ℕ) → is_edition e ≡ true → (1 ≤ e) × (e ≤ 2)
edition_between zero h = absurd (true≢false (sym h))
edition_between (suc zero) h = (omega arith, omega arith)
edition_between (suc (suc zero)) h = (omega arith, omega arith)
edition_between (suc (suc (suc e))) h =
    absurd (true≢false (sym h ∙ no_edition (suc (suc (suc e))) (λ z. omega arith) (λ z. omega arith)))

pub edition-number : (e : ℕ) → is_edition e ≡ true → is_number ((48 + e) ∷ []) ≡ true
unfolding all_of
edition-number e h =
    let b = edition_between e h in
    digits_number ((48 + e) ∷ []) (omega arith) (omega arith)
    (rw (le-leb 48 (48 + e) (omega arith), le-leb (48 + e) 57 (omega arith)))

digit-line : (e : ℕ) → is_edition e ≡ true → digit_line ((48 + e) ∷ []) ≡ Line.edition e
digit-line e h = let z : 48 + e - 48 ≡ e = omega arith in rw (z, h)

no_digit_line : (d : ℕ) → (d ≡ 49 → ⊥) → (d ≡ 50 → ⊥) → digit_line (d ∷ []) ≡ Line.no_form
no_digit_line d n m = rw (no_edition (d - 48) (λ z. n (omega arith)) (λ z. m (omega arith)))

long-line : (w : List ℕ) → (length w ≡ 1 → ⊥) → digit_line w ≡ Line.no_form
long-line [] h = refl
long-line (d ∷ []) h = absurd (h refl)
long-line (d ∷ (c ∷ w)) h = refl

other-line : (w : List ℕ) → (get_or w 0 0 ≡ 49 → ⊥) → (get_or w 0 0 ≡ 50 → ⊥) → digit_line w ≡ Line.no_form
other-line [] n m = refl
other-line (d ∷ []) n m = no_digit_line d n m
other-line (d ∷ (c ∷ w)) n m = refl

one_digit : (w : List ℕ) {d : ℕ} → length w ≡ 1 → get_or w 0 0 ≡ d → w ≡ d ∷ []
one_digit [] h e = absurd (omega arith)
one_digit (c ∷ []) h e = rw e
one_digit (c ∷ (b ∷ w)) h e = absurd (omega arith)

-- What is read is spelled

digit-spells : (d : ℕ) (b : Bool) → is_edition (d - 48) ≡ b
    → LineSpells 9 ((d ∷ []) ∷ []) (pick b (Line.edition (d - 48)) Line.no_form)
unfolding flat_tokens is_line line_tokens
digit-spells d true h =
    let b = edition_between (d - 48) h in
    let z : 48 + (d - 48) ≡ d = omega arith in
    inr (h, rw z)
digit-spells d false h = inl refl

pub edition-spells : (ws : List (List ℕ)) → LineSpells 9 ws (edition_line ws)
edition-spells [] = inl refl
edition-spells ([] ∷ []) = inl refl
edition-spells ((d ∷ []) ∷ []) = digit-spells d (is_edition (d - 48)) refl
edition-spells ((d ∷ (c ∷ w)) ∷ []) = inl refl
edition-spells (w ∷ (v ∷ ws)) = inl refl

-- What is spelled is read

pub edition-words : (e : ℕ) → is_edition e ≡ true
    → with_words 9 (flat_words (Token.word ((48 + e) ∷ []) ∷ (Token.closing ∷ []))) ≡ Line.edition e
unfolding flat_words
edition-words e h = digit-line e h

-- The ways out of `edition_form`

pub edition_wordless : (l : List ℕ) (at : ℕ) → begins_word (tokens (drop at l)) ≡ false → FormAfter l at 9 None
edition_wordless l at h = wordless_form 9 (omega arith) refl l at h

module _ {l : List ℕ} {at a e : ℕ} (t : Found l at (Word a e)) where
  pub edition-unended : ends_line l e ≡ false → FormAfter l at 9 None
  edition-unended h = unended-form 9 (omega arith) (λ _ _ _. refl) t h

  -- the word, as the code reads it
  abbrev pub word-read : List ℕ
  word-read = take (e - a) (drop a l)

  word-is : word-read ≡ slice a e l
  word-is = part_slice l a e (word-le t refl)

  edition-none : digit_line word-read ≡ Line.no_form → FormAfter l at 9 None
  edition-none n = wrong_form 9 (omega arith) (λ _ _ _. refl) t (rw word-is at n)

  pub edition-long : (length word-read ≡ 1 → ⊥) → FormAfter l at 9 None
  edition-long h = edition-none (long-line word-read h)

  pub edition-other : (get_or word-read 0 0 ≡ 49 → ⊥) → (get_or word-read 0 0 ≡ 50 → ⊥) → FormAfter l at 9 None
  edition-other n m = edition-none (other-line word-read n m)

  module _ (h : ends_line l e ≡ true) (s : length word-read ≡ 1) where
    edition-found : (n : ℕ) → is_edition n ≡ true → get_or word-read 0 0 ≡ 48 + n → FormAfter l at 9 (Some (Edition n))
    unfolding ends_line
    edition-found n i d =
        let b = edition_between n i in
        let w = sym word-is ∙ one_digit word-read s d in
        record {
          form-is = (b.0, b.1, rw (flat_word t, ended-words (tokens (drop e l)) h, w) (digit-line n i));
        }

    pub edition-first : get_or word-read 0 0 ≡ 49 → FormAfter l at 9 (Some (Edition 1))
    edition-first d = edition-found 1 refl d

    pub edition-second : get_or word-read 0 0 ≡ 50 → FormAfter l at 9 (Some (Edition 2))
    edition-second d = edition-found 2 refl d
