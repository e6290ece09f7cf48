-- Laws of names that are not long: which lists of names have no long one, and that a line's short names can be held.
-- Assumes nothing.
use mathlib.Core.Path.{◌≡◌, refl, sym, ◌∙◌}
use mathlib.Core.Bool.{true, false}
use mathlib.Core.List.{List, [], ◌∷◌}
use Prim.Native.Nat.{ℕ, ◌≤◌, ◌<◌}
use native.Mathlib.Omega.{arith}
use lib.Dec.{ltb}
use lib.ListN.{length}
use borrow.Author.Tests.{lt-ltb, le-ltb, ltb-true, ltb-false}
use Rattle.words.proofs.Tests.{by_test}
use Rattle.text.specs.Bytes.{is_word_byte, all_of}
use Rattle.text.specs.Tokens.{tokens}
use Rattle.text.specs.Words.{names_in, IsWord}
use Rattle.text.proofs.ByteLaws.{all_head, all_tail, word_byte_not_zero}
use Rattle.text.proofs.Each.{Each}
use Rattle.text.proofs.Words.{line-names_are_words, line-names_are_short}
use Rattle.names.specs.Names.{some_long}
use Rattle.names.specs.Held.{NoZero, Named}

-- some_long

module _ (w : List ℕ) (ws : List (List ℕ)) where
  pub some-long-here : 16 < length w → some_long (w ∷ ws) ≡ true
  unfolding some_long
  some-long-here h = rw (lt-ltb 16 (length w) h)

  pub some-long-later : length w ≤ 16 → some_long (w ∷ ws) ≡ some_long ws
  unfolding some_long
  some-long-later h = rw (le-ltb 16 (length w) h)

  some-long-none : some_long (w ∷ ws) ≡ false → (length w ≤ 16) × (some_long ws ≡ false)
  some-long-none h =
      by_test
      (ltb 16 (length w))
      (λ t.
      let k = some-long-here (ltb-true 16 (length w) t) in
      let z : ◌≡◌ {A = ℕ} 0 1 = cc in
      absurd (omega arith))
      (λ t.
      let k = ltb-false 16 (length w) t in
      (k, sym (some-long-later k) ∙ h))

pub some-long_nil : some_long [] ≡ false
unfolding some_long
some-long_nil = refl

pub all_short : (ws : List (List ℕ)) → Each (λ w. length w ≤ 16) ws → some_long ws ≡ false
all_short [] h = some-long_nil
all_short (w ∷ ws) h = some-long-later w ws h.0 ∙ all_short ws h.1

-- a line of at most 16 bytes has no long name
pub short-line : (l : List ℕ) → length l ≤ 16 → some_long (names_in (tokens l)) ≡ false
short-line l h = all_short (names_in (tokens l)) (line-names_are_short 16 l h)

-- Named

pub no_zero : (w : List ℕ) → all_of is_word_byte w ≡ true → NoZero w
no_zero [] h = NoZero.none
no_zero (b ∷ w) h =
    NoZero.more (word_byte_not_zero b (all_head is_word_byte b w h)) (no_zero w (all_tail is_word_byte b w h))

short-words-named : (ws : List (List ℕ)) → Each IsWord ws → some_long ws ≡ false → Each Named ws
short-words-named [] h s = tt
short-words-named (w ∷ ws) h s =
    let k = some-long-none w ws s in
    (record { short = k.0; no_zero = no_zero w h.0.1 }, short-words-named ws h.1 k.1)

pub line-named : (l : List ℕ) → some_long (names_in (tokens l)) ≡ false → Each Named (names_in (tokens l))
line-named l s = short-words-named (names_in (tokens l)) (line-names_are_words l) s
