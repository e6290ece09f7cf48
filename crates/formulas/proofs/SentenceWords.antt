-- The words of a formula's tokens are words, where its names are. Assumes nothing.
use mathlib.Core.Path.{◌≡◌, refl, sym, subst}
use mathlib.Core.Bool.{true}
use mathlib.Core.List.{List, [], ◌∷◌, ◌++◌, append_assoc}
use Prim.Native.Nat.{ℕ, ◌-◌, ◌<◌}
use native.Mathlib.Omega.{arith}
use lib.ListN.{get_or}
use Rattle.text.specs.Tokens.{Token}
use Rattle.text.specs.Words.{IsWord, WordBytes}
use Rattle.text.proofs.Each.{Each, each-split, each_at}
use Rattle.text.proofs.Words.{lettered-words}
use Rattle.formulas.specs.Sentence.{Sentence, sentence_names, form_words, form_tokens, tokens_of, is_sentence}
use Rattle.formulas.proofs.Spelling.{joined-sentence}

form-word : (k : ℕ) → k < 5 → IsWord (get_or form_words k [])
form-word k h = each_at IsWord form_words k [] (lettered-words form_words refl) h

-- a form in front of other tokens
form-bytes : (w : List ℕ) (ts us : List Token) → IsWord w → WordBytes (ts ++ (Token.closing ∷ us))
    → WordBytes (form_tokens w ts ++ us)
form-bytes w ts us h k = (h, subst WordBytes (sym (append_assoc ts (Token.closing ∷ []) us)) k)

pub sentence-bytes : (f : Sentence) (us : List Token) → is_sentence f ≡ true → Each IsWord (sentence_names f)
    → WordBytes us → WordBytes (tokens_of f ++ us)
unfolding tokens_of is_sentence sentence_names
sentence-bytes (Sentence.name w) us s h k = (h.0, k)
sentence-bytes (Sentence.negation f) us s h k =
    form-bytes (get_or form_words 0 []) (tokens_of f) us (form-word 0 (omega arith))
    (sentence-bytes f (Token.closing ∷ us) s h k)
sentence-bytes (Sentence.joined i f g) us s h k =
    let j = joined-sentence i f g s in
    let n = each-split IsWord (sentence_names f) (sentence_names g) h in
    form-bytes (get_or form_words (i - 64) []) (tokens_of f ++ tokens_of g) us
    (form-word (i - 64) (omega (arith, j.low, j.high)))
    (rw append_assoc (sentence-bytes f (tokens_of g ++ (Token.closing ∷ us)) j.first n.0
    (sentence-bytes g (Token.closing ∷ us) j.second n.1 k)))
