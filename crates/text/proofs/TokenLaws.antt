-- Laws of the words and brackets of a line, by places of the line: a loop over a word, and what stands at a place.
-- Assumes nothing.
use mathlib.Core.Path.{◌≡◌, refl, sym, ap, ◌∙◌, subst}
use mathlib.Core.Bool.{Bool, true, false}
use mathlib.Core.List.{List, [], ◌∷◌, ◌++◌}
use mathlib.Core.Logic.{⊎_elim}
use Prim.Native.Nat.{ℕ, ◌+◌, ◌-◌, ◌≤◌, ◌<◌}
use native.Mathlib.Nat.{not-suc-le-zero, eq-or-lt_of_le}
use native.Mathlib.Numerals.{add-one}
use native.Mathlib.Omega.{arith}
use lib.ListN.{length, drop, get_or, drop_of_length-le}
use lib.Seq.{slice, length-slice, drop-cons}
use borrow.Author.Tests.{ne_eqb}
use Rattle.text.specs.Bytes.{is_word_byte}
use Rattle.text.specs.Tokens.{Token, ended, bracket, tokens_from, tokens}
use Rattle.text.specs.declared.tokens.Next.{Next}
use Rattle.text.specs.declared.tokens.Next.TheVariants.{End, Open, Close, Word}
use Rattle.text.specs.Scanning.{WordEnds, first_token, Inside, Found}
use Rattle.text.proofs.Slices.{slice_more}

-- the tokens of what is left of l from place i on, behind the part w of a word
module _ (l w : List ℕ) (i : ℕ) where
  tokens_in : i < length l → is_word_byte (get_or l i 0) ≡ true
      → tokens_from w (drop i l) ≡ tokens_from (w ++ (get_or l i 0 ∷ [])) (drop (i + 1) l)
  unfolding tokens_from
  tokens_in h t = rw (add-one, drop-cons l i 0 h) (rw t)

  tokens_off : i < length l → is_word_byte (get_or l i 0) ≡ false
      → tokens_from w (drop i l) ≡ ended w (bracket (get_or l i 0) (tokens (drop (i + 1) l)))
  unfolding tokens_from
  tokens_off h t = rw (add-one, drop-cons l i 0 h) (rw t)

pub ended-word : (w : List ℕ) (ts : List Token) → 0 < length w → ended w ts ≡ Token.word w ∷ ts
ended-word [] ts h = absurd (not-suc-le-zero h)
ended-word (b ∷ w) ts h = refl

word-stops : (l w : List ℕ) (i : ℕ) → 0 < length w → i < length l → is_word_byte (get_or l i 0) ≡ false
    → tokens_from w (drop i l) ≡ Token.word w ∷ tokens (drop i l)
word-stops l w i n h t =
    tokens_off l w i h t
    ∙ ended-word w _ n
    ∙ ap (λ (ts : List Token). Token.word w ∷ ts) (sym (tokens_off l [] i h t))

word-ends : (l w : List ℕ) (i : ℕ) → 0 < length w → length l ≤ i
    → tokens_from w (drop i l) ≡ Token.word w ∷ tokens (drop i l)
unfolding tokens_from
word-ends l w i n h = rw (drop_of_length-le l h) (ended-word w [] n)

-- the bytes from place at to place i belong to one word: at the word's start, after a turn and at the word's end
pub record InWord (l : List ℕ) (at i : ℕ) : Type 0 where
  pub onward : at ≤ i
  pub within : i ≤ length l
  pub tokens_are : tokens (drop at l) ≡ tokens_from (slice at i l) (drop i l)

module _ {l : List ℕ} {at i : ℕ} (h : InWord l at i) where
  pub in_word_more : i < length l → is_word_byte (get_or l i 0) ≡ true → InWord l at (i + 1)
  in_word_more k t = record {
    onward = omega arith;
    within = omega arith;
    tokens_are = h.tokens_are ∙ tokens_in l (slice at i l) i k t ∙ rw (slice_more l at i h.onward k);
  }

  word_holds : at < i → 0 < length (slice at i l)
  word_holds k = rw (length-slice at i l h.within) (omega arith)

  pub in_word_stops : is_word_byte (get_or l at 0) ≡ true → i < length l → is_word_byte (get_or l i 0) ≡ false
      → WordEnds l at i
  in_word_stops t k f =
      let never : at ≡ i → at < i = λ q. let z : ◌≡◌ {A = ℕ} 0 1 = cc in omega arith in
      let lt = ⊎_elim never (λ p. p) (eq-or-lt_of_le h.onward) in
      let e = h.tokens_are ∙ word-stops l (slice at i l) i (word_holds lt) k f in
      record { onward = lt; within = h.within; tokens_are = e }

  pub in_word_ends : at < length l → length l ≤ i → WordEnds l at i
  in_word_ends lt k =
      let e = h.tokens_are ∙ word-ends l (slice at i l) i (word_holds (omega arith)) k in
      record { onward = omega arith; within = h.within; tokens_are = e }

-- what stands at place i
module _ (l : List ℕ) (i : ℕ) where
  tokens-opening : i < length l → get_or l i 0 ≡ 40 → tokens (drop i l) ≡ Token.opening ∷ tokens (drop (i + 1) l)
  unfolding is_word_byte
  tokens-opening h e = tokens_off l [] i h (rw e) ∙ rw e

  tokens-closing : i < length l → get_or l i 0 ≡ 41 → tokens (drop i l) ≡ Token.closing ∷ tokens (drop (i + 1) l)
  unfolding is_word_byte
  tokens-closing h e = tokens_off l [] i h (rw e) ∙ rw e

  tokens_gap : i < length l → is_word_byte (get_or l i 0) ≡ false → (get_or l i 0 ≡ 40 → ⊥) → (get_or l i 0 ≡ 41 → ⊥)
      → tokens (drop i l) ≡ tokens (drop (i + 1) l)
  tokens_gap h t o e = tokens_off l [] i h t ∙ simp (ne_eqb _ _ o, ne_eqb _ _ e)

  tokens_none : length l ≤ i → tokens (drop i l) ≡ []
  unfolding tokens_from
  tokens_none h = rw (drop_of_length-le l h)

-- no token stands between place at and place i: at the start, after a turn, and by what stands at place i
pub record Passed (l : List ℕ) (at i : ℕ) : Type 0 where
  pub onward : at ≤ i
  pub tokens_are : tokens (drop at l) ≡ tokens (drop i l)

module _ {l : List ℕ} {at i : ℕ} (h : Passed l at i) where
  pub passed-end : length l ≤ i → Found l at End
  passed-end k = record { tokens_are = h.tokens_are ∙ tokens_none l i k; inside = tt }

  module _ (k : i < length l) where
    pub passed-opening : get_or l i 0 ≡ 40 → Found l at (Open (i + 1))
    passed-opening e =
        record { tokens_are = h.tokens_are ∙ tokens-opening l i k e; inside = (omega arith, omega arith) }

    pub passed-closing : get_or l i 0 ≡ 41 → Found l at (Close (i + 1))
    passed-closing e =
        record { tokens_are = h.tokens_are ∙ tokens-closing l i k e; inside = (omega arith, omega arith) }

    pub passed_gap : {r : Bool} → r ≡ is_word_byte (get_or l i 0) → r ≡ false → (get_or l i 0 ≡ 40 → ⊥)
        → (get_or l i 0 ≡ 41 → ⊥) → Passed l at (i + 1)
    passed_gap t f o e =
        record { onward = omega arith; tokens_are = h.tokens_are ∙ tokens_gap l i k (sym t ∙ f) o e }

-- the token q was found at or behind place i
module _ {l : List ℕ} {i : ℕ} {r q : Next} (f : Found l i r) (e : r ≡ q) where
  pub found-tokens : tokens (drop i l) ≡ first_token l q
  found-tokens = f.tokens_are ∙ ap (first_token l) e

  pub found_inside : Inside l i q
  found_inside = subst (Inside l i) e f.inside

-- a word that was found lies in the line
module _ {l : List ℕ} {i a e : ℕ} {r : Next} (f : Found l i r) (q : r ≡ Word a e) where
  pub word-le : a ≤ e
  word-le = let k = found_inside f q in omega arith

  pub word-within : e ≤ length l
  word-within = (found_inside f q).2

-- what is left of the line grows shorter
module _ {l : List ℕ} {i : ℕ} {r : Next} (f : Found l i r) where
  pub opening-less : {n : ℕ} → r ≡ Open n → length l - n < length l - i
  opening-less e = let k = found_inside f e in omega arith

  pub closing-less : {n : ℕ} → r ≡ Close n → length l - n < length l - i
  closing-less e = let k = found_inside f e in omega arith

  pub word-less : {a e : ℕ} → r ≡ Word a e → length l - e < length l - i
  word-less q = let k = found_inside f q in omega arith
