-- The words of a line's tokens are words, where its names are. Assumes nothing.
use mathlib.Core.Path.{◌≡◌, refl}
use mathlib.Core.Bool.{Bool, true, false, ◌&&◌}
use mathlib.Core.List.{List, [], ◌∷◌, ◌++◌, append_assoc}
use Prim.Native.Nat.{ℕ, ◌+◌, ◌<◌}
use native.Mathlib.Omega.{arith}
use lib.ListN.{get_or}
use Rattle.text.specs.Numbers.{is_number}
use Rattle.text.specs.Tokens.{Token}
use Rattle.text.specs.Words.{begins_with_letter, IsWord, WordBytes}
use Rattle.text.proofs.ByteLaws.{and_true_both}
use Rattle.text.proofs.Each.{Each, each_at}
use Rattle.text.proofs.NumberLaws.{number_word}
use Rattle.text.proofs.Words.{lettered-words}
use Rattle.formulas.specs.Sentence.{sentence_names, is_sentence}
use Rattle.formulas.proofs.NameSentence.{name-names, negation-names}
use Rattle.formulas.proofs.SentenceWords.{sentence-bytes}
use Rattle.grammar.specs.Line.{Line, Literal, line_words, of_literal, body_tokens, body_names, line_tokens, line_names}
use Rattle.grammar.specs.Line.{are_named, is_cost, is_line}
use Rattle.grammar.proofs.Editions.{edition-number}
use Rattle.grammar.proofs.LineReading.{clause-parts, constraint-parts}

line_word : (k : ℕ) → k < 10 → IsWord (get_or line_words k [])
line_word k h = each_at IsWord line_words k [] (lettered-words line_words refl) h

-- literals
literal-word : (b : Bool) (w : List ℕ) → IsWord w → Each IsWord (sentence_names (of_literal (Literal.literal b w)))
literal-word false w h = rw (name-names w) (h, tt)
literal-word true w h = rw (negation-names w) (h, tt)

body_bytes : (ls : List Literal) (us : List Token) → are_named ls ≡ true → Each IsWord (body_names ls) → WordBytes us
    → WordBytes (body_tokens ls ++ us)
unfolding are_named body_tokens
body_bytes [] us s h k = k
body_bytes (Literal.literal b w ∷ ls) us s h k =
    let x = Literal.literal b w in
    let a = and_true_both (is_sentence (of_literal x)) (are_named ls) s in
    rw append_assoc
    (sentence-bytes (of_literal x) (body_tokens ls ++ us) a.0 (literal-word b w h.0)
    (body_bytes ls us a.1 h.1 k))

-- lines
cost-bytes : (w p s : List ℕ) → is_cost w p s ≡ true → IsWord w
    → WordBytes (Token.word w ∷ (Token.word p ∷ (Token.word s ∷ (Token.closing ∷ []))))
cost-bytes w p s c h =
    let a = and_true_both (begins_with_letter w && is_number p) (is_number s) c in
    let b = and_true_both (begins_with_letter w) (is_number p) a.0 in
    (h, (number_word p b.1, (number_word s a.1, tt)))

pub line-bytes : (x : Line) → is_line x ≡ true → Each IsWord (line_names x) → WordBytes (line_tokens x)
unfolding line_tokens is_line
line-bytes Line.skipped s h = tt
line-bytes Line.no_form s h = tt
line-bytes (Line.clause k w ls) s h =
    let p = clause-parts {k = k} {w = w} {ls = ls} s in
    (line_word k (omega (arith, p.kind-lt)), (h.0, body_bytes ls (Token.closing ∷ []) p.body h.1 tt))
line-bytes (Line.constraint k ls) s h =
    let p = constraint-parts {k = k} {ls = ls} s in
    (line_word (3 + k) (omega (arith, p.kind-lt)), body_bytes ls (Token.closing ∷ []) p.body h tt)
line-bytes (Line.seen (Literal.literal b w)) s h = (
  line_word 5 (omega arith),
  sentence-bytes (of_literal (Literal.literal b w)) (Token.closing ∷ []) s (literal-word b w h.0) tt,
)
line-bytes (Line.query f) s h = (line_word 6 (omega arith), sentence-bytes f (Token.closing ∷ []) s h tt)
line-bytes (Line.cost w p t) s h = (line_word 7 (omega arith), cost-bytes w p t s h.0)
line-bytes (Line.atom w) s h = (line_word 8 (omega arith), (h.0, tt))
line-bytes (Line.edition e) s h = (line_word 9 (omega arith), (number_word ((48 + e) ∷ []) (edition-number e s), tt))
