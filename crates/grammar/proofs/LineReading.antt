-- What is spelled is read: the tokens of a line that passes is_line are read as this line. Assumes nothing.
use mathlib.Core.Path.{◌≡◌, refl, sym, ap, ◌∙◌}
use mathlib.Core.Bool.{true, false, true≢false}
use mathlib.Core.List.{List, [], ◌∷◌, ◌++◌, append_assoc}
use mathlib.Core.Option.{Option}
use Prim.Native.Nat.{ℕ, ◌+◌, ◌-◌, ◌≤◌, ◌<◌}
use native.Mathlib.Omega.{arith}
use lib.ListN.{length, get_or}
use borrow.Author.Tests.{ltb-true}
use Rattle.text.specs.Tokens.{Token}
use Rattle.text.specs.Words.{begins_with_letter}
use Rattle.text.proofs.ByteLaws.{and_true_both}
use Rattle.formulas.specs.Parsing.{Items}
use Rattle.formulas.specs.Sentence.{Sentence, form_tokens, tokens_of, is_sentence}
use Rattle.formulas.specs.Items.{prepend, Item, items_of}
use Rattle.formulas.proofs.Reading.{items_end, items_closing}
use Rattle.formulas.proofs.Spelling.{tokens_of-read}
use Rattle.grammar.specs.Line.{Literal, Line, line_words, of_literal, body_tokens, line_tokens, are_named, takes}
use Rattle.grammar.specs.Line.{is_line}
use Rattle.grammar.specs.LineOf.{literals_of, with_body, body_line}
use Rattle.grammar.specs.LineOf.{with_items, behind_word, line_of}
use Rattle.grammar.specs.Parsing.{literals_among, body_in}
use Rattle.grammar.proofs.KindLaws.{word-kind, fit_body, body-kind}
use Rattle.grammar.proofs.Forms.{behind_items, clause-is, constraint-kind}
use Rattle.grammar.proofs.Costs.{cost-words}
use Rattle.grammar.proofs.Atoms.{atom-words}
use Rattle.grammar.proofs.Editions.{edition-words}

closing-read : items_of (Token.closing ∷ []) ≡ Option.some (Item.closing ∷ [])
closing-read = rw (items_closing, items_end)

-- a formula and the line's closing bracket
pub sentence-read : (f : Sentence) → is_sentence f ≡ true
    → items_of (tokens_of f ++ (Token.closing ∷ [])) ≡ Option.some (Item.formula f ∷ (Item.closing ∷ []))
sentence-read f h = tokens_of-read f (Token.closing ∷ []) h ∙ ap (prepend (Item.formula f)) closing-read

among-literal : (x : Literal) (y : Items)
    → literals_among (prepend (Item.formula (of_literal x)) y) ≡ prepend x (literals_among y)
unfolding literals_of
among-literal (Literal.literal false w) Option.none = refl
among-literal (Literal.literal false w) (Option.some m) = refl
among-literal (Literal.literal true w) Option.none = refl
among-literal (Literal.literal true w) (Option.some m) = refl

body-read : (ls : List Literal) → are_named ls ≡ true
    → body_in (body_tokens ls ++ (Token.closing ∷ [])) ≡ Option.some ls
unfolding body_tokens are_named literals_of
body-read [] h = ap literals_among closing-read
body-read (x ∷ ls) h =
    let k = and_true_both _ _ h in
    let us = body_tokens ls ++ (Token.closing ∷ []) in
    rw (append_assoc, tokens_of-read (of_literal x) us k.0)
    (among-literal x (items_of us) ∙ ap (prepend x) (body-read ls k.1))

-- the line with the word of kind k and the tokens ts behind it
word_read : (k : ℕ) (ts : List Token) → k < length line_words
    → line_of (form_tokens (get_or line_words k []) ts) ≡ behind_word k (ts ++ (Token.closing ∷ []))
unfolding line_of
word_read k ts h = rw (word-kind k h)

-- and where these are literals
literals-read : (k : ℕ) (ts : List Token) (ls : List Literal) → 3 ≤ k → k < 6
    → body_in (ts ++ (Token.closing ∷ [])) ≡ Option.some ls → takes k (length ls) ≡ true
    → line_of (form_tokens (get_or line_words k []) ts) ≡ body_line k ls
literals-read k ts ls i j e t =
    word_read k ts (omega arith) ∙ behind_items k (ts ++ (Token.closing ∷ [])) (omega arith)
    ∙ body-kind k (items_of (ts ++ (Token.closing ∷ []))) i j ∙ ap (with_body k (body_line k)) e
    ∙ fit_body k (body_line k) ls t

-- what a clause that passes is_line is made of
pub record ClauseParts (k : ℕ) (w : List ℕ) (ls : List Literal) : Type 0 where
  pub kind-lt : k < 3
  pub head : begins_with_letter w ≡ true
  pub body : are_named ls ≡ true
  pub fits : takes k (length ls) ≡ true

pub clause-parts : {k : ℕ} {w : List ℕ} {ls : List Literal} → is_line (Line.clause k w ls) ≡ true → ClauseParts k w ls
unfolding is_line
clause-parts {k} h =
    let a = and_true_both _ _ h in
    let b = and_true_both _ _ a.0 in
    let c = and_true_both _ _ b.0 in
    record { kind-lt = ltb-true k 3 c.0; head = c.1; body = b.1; fits = a.1 }

clause-read : (k : ℕ) (w : List ℕ) (ls : List Literal) → is_line (Line.clause k w ls) ≡ true
    → line_of (line_tokens (Line.clause k w ls)) ≡ Line.clause k w ls
unfolding line_tokens
clause-read k w ls h =
    let p = clause-parts h in
    let lt = p.kind-lt in
    word_read k (Token.word w ∷ body_tokens ls) (omega arith)
    ∙ behind_items k (Token.word w ∷ (body_tokens ls ++ (Token.closing ∷ []))) (omega arith)
    ∙ clause-is k (omega arith) refl p.head
    ∙ ap (with_body k (Line.clause k w)) (body-read ls p.body) ∙ fit_body k (Line.clause k w) ls p.fits

-- what a constraint that passes is_line is made of
pub record ConstraintParts (k : ℕ) (ls : List Literal) : Type 0 where
  pub kind-lt : k < 2
  pub body : are_named ls ≡ true
  pub fits : takes (3 + k) (length ls) ≡ true

pub constraint-parts : {k : ℕ} {ls : List Literal} → is_line (Line.constraint k ls) ≡ true → ConstraintParts k ls
unfolding is_line
constraint-parts {k} h =
    let a = and_true_both _ _ h in
    let b = and_true_both _ _ a.0 in
    record { kind-lt = ltb-true k 2 b.0; body = b.1; fits = a.1 }

constraint-read : (k : ℕ) (ls : List Literal) → is_line (Line.constraint k ls) ≡ true
    → line_of (line_tokens (Line.constraint k ls)) ≡ Line.constraint k ls
unfolding line_tokens
constraint-read k ls h =
    let p = constraint-parts h in
    let e : 3 + k - 3 ≡ k = omega arith in
    literals-read (3 + k) (body_tokens ls) ls (omega arith) (omega arith) (body-read ls p.body) p.fits
    ∙ constraint-kind (3 + k) ls (omega arith) ∙ ap (λ (i : ℕ). Line.constraint i ls) e

seen_read : (x : Literal) → is_line (Line.seen x) ≡ true → line_of (line_tokens (Line.seen x)) ≡ Line.seen x
unfolding is_line line_tokens literals_of
seen_read x h =
    let e = ap literals_among (sentence-read (of_literal x) h) ∙ among-literal x (Option.some (Item.closing ∷ [])) in
    literals-read 5 (tokens_of (of_literal x)) (x ∷ []) (omega arith) (omega arith) e refl

query-read : (f : Sentence) → is_line (Line.query f) ≡ true → line_of (line_tokens (Line.query f)) ≡ Line.query f
unfolding is_line line_tokens
query-read f h = word_read 6 (tokens_of f) (omega arith) ∙ ap (with_items 6) (sentence-read f h)

cost-read : (w p s : List ℕ) → is_line (Line.cost w p s) ≡ true
    → line_of (line_tokens (Line.cost w p s)) ≡ Line.cost w p s
unfolding is_line line_tokens
cost-read w p s h =
    word_read 7 (Token.word w ∷ (Token.word p ∷ (Token.word s ∷ []))) (omega arith) ∙ cost-words w p s h

atom-read : (w : List ℕ) → is_line (Line.atom w) ≡ true → line_of (line_tokens (Line.atom w)) ≡ Line.atom w
unfolding is_line line_tokens
atom-read w h = word_read 8 (Token.word w ∷ []) (omega arith) ∙ atom-words w h

edition-read : (e : ℕ) → is_line (Line.edition e) ≡ true → line_of (line_tokens (Line.edition e)) ≡ Line.edition e
unfolding is_line line_tokens
edition-read e h = word_read 9 (Token.word ((48 + e) ∷ []) ∷ []) (omega arith) ∙ edition-words e h

pub line_read : (x : Line) → is_line x ≡ true → line_of (line_tokens x) ≡ x
unfolding is_line line_tokens line_of
line_read Line.skipped h = refl
line_read Line.no_form h = absurd (true≢false (sym h))
line_read (Line.clause k w ls) h = clause-read k w ls h
line_read (Line.constraint k ls) h = constraint-read k ls h
line_read (Line.seen x) h = seen_read x h
line_read (Line.query f) h = query-read f h
line_read (Line.cost w p s) h = cost-read w p s h
line_read (Line.atom w) h = atom-read w h
line_read (Line.edition e) h = edition-read e h
