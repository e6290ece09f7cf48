-- Laws of the words that hold the atoms of literals: their bits are below a number, and one literal gives a bit.
-- Assumes nothing.
use mathlib.Core.Path.{◌≡◌, refl, sym, ◌∙◌}
use mathlib.Core.Bool.{Bool, true, false, not, and-false, false≢true}
use mathlib.Core.List.{List, [], ◌∷◌}
use Prim.Native.Nat.{ℕ, ◌^◌, ◌≤◌, ◌<◌}
use native.Mathlib.Omega.{arith}
use lib.Dec.{eqb}
use lib.Pow.{pow_pos}
use borrow.Author.Tests.{eq-eqb, ne_eqb}
use Rattle.words.specs.Bits.{has, word}
use Rattle.words.proofs.Bits.{has-zero, has_above}
use Rattle.words.proofs.Words.{word_lt, has_word, is_word, lt_of_bits}
use Rattle.program.specs.Sound.{bare}
use Rattle.text.proofs.Each.{Each}
use Rattle.grammar.specs.Line.{Literal, body_names}
use Rattle.grammar.proofs.LineLaws.{Bodied}
use Rattle.store.specs.Saying.{some_on, atoms_by, or_atoms}
use Rattle.store.proofs.Encoded.{Below}

-- a word whose bits are all below n
word_below : (p : ℕ → Bool) (n : ℕ) → n ≤ 64 → ((a : ℕ) → n ≤ a → p a ≡ false) → word 64 p < 2 ^ n
word_below p n h f = lt_of_bits 64 n (word 64 p) h (word_lt 64 p) (λ i l k. has_word 64 p i k ∙ f i l)

pub or-atoms-lt : (n v w : ℕ) → n ≤ 64 → v < 2 ^ n → w < 2 ^ n → or_atoms v w < 2 ^ n
or-atoms-lt n v w h k l =
    word_below _ n h (λ a m. rw (has_above n v a k m) (has_above n w a l m))

-- a word with a bit
has-not-zero : (w a : ℕ) → has w a ≡ true → eqb w 0 ≡ false
has-not-zero w a h = ne_eqb w 0 (λ e. false≢true (sym (has-zero a) ∙ rw e at h))

-- literals whose names are found below n
module _ (at : List ℕ → ℕ) (n : ℕ) where
  some-on-none : (b : Bool) (l : List Literal) (a : ℕ) → Each (Below at n) (body_names l) → n ≤ a
      → some_on at b l a ≡ false
  unfolding some_on
  some-on-none b [] a h k = refl
  some-on-none true (Literal.literal m w ∷ l) a h k =
      rw (ne_eqb (at w) a (λ e. omega arith), and-false m) (some-on-none true l a h.1 k)
  some-on-none false (Literal.literal m w ∷ l) a h k =
      rw (ne_eqb (at w) a (λ e. omega arith), and-false (not m)) (some-on-none false l a h.1 k)

  pub atoms-lt : (b : Bool) (l : List Literal) → n ≤ 64 → Each (Below at n) (body_names l) → atoms_by at b l < 2 ^ n
  unfolding atoms_by
  atoms-lt b l h k = word_below (some_on at b l) n h (λ a. some-on-none b l a k)

  -- no literal gives no bit
  atoms-none : (b : Bool) → atoms_by at b [] ≡ 0
  unfolding atoms_by some_on
  atoms-none b = sym (is_word 64 0 (some_on at b []) (pow_pos 64) (λ i _. has-zero i))

  pub none_bare : bare (atoms_by at false []) (atoms_by at true []) ≡ true
  none_bare = rw (atoms-none false, atoms-none true)

  -- the first literal gives a bit
  some-not-zero : (b : Bool) (w : List ℕ) (l : List Literal) → n ≤ 64 → at w < n
      → some_on at b (Literal.literal b w ∷ l) (at w) ≡ true → eqb (atoms_by at b (Literal.literal b w ∷ l)) 0 ≡ false
  unfolding atoms_by
  some-not-zero b w l h k e =
      let p : ℕ → Bool = some_on at b (Literal.literal b w ∷ l) in
      has-not-zero (word 64 p) (at w) (has_word 64 p (at w) (omega arith) ∙ e)

  pub body-not-bare : (l : List Literal) → n ≤ 64 → Bodied l → Each (Below at n) (body_names l)
      → bare (atoms_by at false l) (atoms_by at true l) ≡ false
  unfolding some_on
  body-not-bare [] h b k = absurd b
  body-not-bare (Literal.literal true w ∷ l) h b k =
      let e = some-not-zero true w l h k.0 (rw (eq-eqb (at w) (at w) refl)) in
      rw (e, and-false (eqb (atoms_by at false (Literal.literal true w ∷ l)) 0))
  body-not-bare (Literal.literal false w ∷ l) h b k =
      rw (some-not-zero false w l h k.0 (rw (eq-eqb (at w) (at w) refl)))
