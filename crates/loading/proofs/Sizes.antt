-- How long the lines of a load are, and its text.
--
--   size b ts        how many bytes the text of the tokens ts has, just behind a word where the test b holds
--   pen b            a pen at place 0, just behind a word where the test b holds
--   Spans b t n d    the token t has n bytes there, and a word stands just before what follows where the test d holds
--   ShortLiteral x   the text of the literal x has at most 9 bytes
--   AtMost m x       the text of the line x has at most m bytes
--   Limits n c       a load has from 1 to 64 atoms, here n, and at most 256 clauses, here c
-- Assumes nothing.
use mathlib.Core.Path.{◌≡◌, refl, sym, ap, ◌∙◌}
use mathlib.Core.Bool.{Bool, true, false, ◌&&◌}
use mathlib.Core.List.{List, [], ◌∷◌, ◌++◌, map, map-append}
use Prim.Native.Nat.{ℕ, zero, suc, ◌+◌, ◌*◌, ◌%◌, ◌≤◌, ◌<◌}
use native.Mathlib.Nat.{mod-lt}
use native.Mathlib.Omega.{arith}
use lib.Dec.{eqb, leb}
use lib.ListN.{length, get_or, length-append, length-map}
use borrow.Author.Tests.{leb-true}
use Rattle.words.proofs.Lists.{list_of-length}
use Rattle.words.proofs.Tests.{by_test, and_true_l, and_true_r}
use Rattle.text.specs.Tokens.{Token}
use Rattle.text.specs.Spelled.{spelled_from, text_of}
use Rattle.text.proofs.Each.{Each}
use Rattle.text.proofs.Spelled.{spelled-closing, text-append, text_bound}
use Rattle.formulas.specs.Sentence.{Sentence, form_words, form_tokens, tokens_of}
use Rattle.formulas.proofs.NameSentence.{name-tokens}
use Rattle.formulas.proofs.FormSentence.{negation-tokens}
use Rattle.grammar.specs.Line.{Line, Literal, line_words, of_literal, body_tokens}
use Rattle.grammar.proofs.LineTokens.{body-none, body-first, atom-tokens, clause-tokens, query-tokens}
use Rattle.output.specs.Writing.{laid, Writes}
use Rattle.output.proofs.Decimals.{decimal-short}
use Rattle.spelling.specs.declared.Pen.{Pen}
use Rattle.spelling.specs.Pen.{behind_of}
use Rattle.spelling.proofs.Pens.{spelled-append, spells-none, gap_none, gap_written, opening-written, word-written}
use Rattle.writing.specs.Lines.{line_text}
use Rattle.writing.proofs.Rows.{each_map, each_list_of}
use Rattle.loading.specs.Draws.{state_after, draw}
use Rattle.loading.specs.Load.{load_name, literal_drawn, literals_drawn, is_rule, kind_drawn, literal_count}
use Rattle.loading.specs.Load.{clause_drawn, clauses_drawn, atom_lines, query_of_first, load_text}
use Rattle.loading.specs.Operation.{is_load}
use Rattle.loading.specs.Claims.{longest_load}
use Rattle.loading.proofs.Drawing.{rule-kind, other-low, rule-count, other-count, literals-length, literals-each}
use Rattle.loading.proofs.Drawing.{clauses-length, clauses-each}
use Rattle.loading.proofs.Names.{load_name-length}

-- ---- tokens
abbrev size : Bool → List Token → ℕ
size b ts = length (spelled_from b ts)

size-append : (b : Bool) (ts us : List Token) → size b (ts ++ us) ≡ size b ts + size (behind_of b ts) us
size-append b ts us = ap length (spelled-append b ts us) ∙ length-append (spelled_from b ts) _

-- one token, by the place behind it where it is written to an output of no bytes
abbrev pen : Bool → Pen
pen b = record { at = 0; behind = b }

bytes-laid : (l out : List ℕ) (at : ℕ) → Writes l out at (at + length l) (laid out at l)
bytes-laid l out at = record { place_is = refl; out_is = refl }

abbrev Spans : Bool → Token → ℕ → Bool → Type 0
Spans b t n d = (size b (t ∷ []) ≡ n) × (behind_of b (t ∷ []) ≡ d)

opening_spans : (b : Bool) → Spans b Token.opening 1 false
opening_spans b =
    let s = opening-written (pen b) (bytes-laid (40 ∷ []) [] 0) in
    (omega (arith, s.place_is), sym s.behind-is)

-- a word behind a bracket, and one behind a word
module _ (w : List ℕ) where
  apart_spans : Spans false (Token.word w) (length w) true
  apart_spans =
      let s = word-written (pen false) w (gap_none {out = []} {at = 0} refl) (bytes-laid w [] 0) in
      (omega (arith, s.place_is), sym s.behind-is)

  behind_spans : Spans true (Token.word w) (1 + length w) true
  behind_spans =
      let g = gap_written {b = true} refl (bytes-laid (32 ∷ []) [] 0) in
      let s = word-written (pen true) w g (bytes-laid w _ 1) in
      (omega (arith, s.place_is), sym s.behind-is)

  word_size : (b : Bool) → size b (Token.word w ∷ []) ≤ 1 + length w
  word_size true = omega (arith, behind_spans.0)
  word_size false = omega (arith, apart_spans.0)

  name-size : (b : Bool) → size b (tokens_of (Sentence.name w)) ≤ 1 + length w
  name-size b = rw (name-tokens w) (word_size b)

  -- tokens behind a word that stands behind another
  behind-size : (ts : List Token) → size true (Token.word w ∷ ts) ≡ 1 + length w + size true ts
  behind-size ts = rw (behind_spans.0, behind_spans.1) at (size-append true (Token.word w ∷ []) ts)

  -- the form with the word w
  form-size : (b : Bool) (ts : List Token) → size b (form_tokens w ts) ≡ 2 + length w + size true ts
  form-size b ts =
      let us = ts ++ (Token.closing ∷ []) in
      let o = opening_spans b in
      let front = rw (o.0, o.1) at (size-append b (Token.opening ∷ []) (Token.word w ∷ us)) in
      let middle = rw (apart_spans.0, apart_spans.1) at (size-append false (Token.word w ∷ []) us) in
      let end = rw (spelled-closing (behind_of true ts)) at (size-append true ts (Token.closing ∷ [])) in
      omega arith

-- ---- literals
abbrev ShortLiteral : Literal → Type 0
ShortLiteral x = (b : Bool) → size b (tokens_of (of_literal x)) ≤ 9

literal-size : (t : Bool) (w : List ℕ) → length w ≤ 3 → ShortLiteral (Literal.literal t w)
literal-size false w h b = omega (arith, name-size w b)
literal-size true w h b =
    let e = form-size (get_or form_words 0 []) b (tokens_of (Sentence.name w)) in
    rw (negation-tokens (Sentence.name w)) (omega (arith, name-size w true))

body-size : (ls : List Literal) (b : Bool) → Each ShortLiteral ls → size b (body_tokens ls) ≤ 9 * length ls
body-size [] b h = rw body-none (omega (arith, (spells-none [] (pen b)).place_is))
body-size (x ∷ ls) b h =
    let e = size-append b (tokens_of (of_literal x)) (body_tokens ls) in
    rw (body-first x ls) (omega (arith, h.0 b, body-size ls (behind_of b (tokens_of (of_literal x))) h.1))

-- ---- lines
abbrev pub AtMost : ℕ → Line → Type 0
AtMost m x = length (line_text x) ≤ m

pub atom-size : (a : ℕ) → a < 64 → AtMost 10 (Line.atom (load_name a))
atom-size a h =
    let e = form-size (get_or line_words 8 []) false (Token.word (load_name a) ∷ []) in
    rw (atom-tokens (load_name a)) (omega (arith, word_size (load_name a) true, load_name-length a h))

pub query-size : AtMost 10 query_of_first
query-size =
    let e = form-size (get_or line_words 6 []) false (tokens_of (Sentence.name (load_name 0))) in
    rw (query-tokens (Sentence.name (load_name 0)))
    (omega (arith, name-size (load_name 0) true, decimal-short 0 0 (omega arith)))

-- the word `if`, and the words `true` and `false`
rule-word : (s : ℕ) → is_rule s ≡ true → length (get_or line_words (kind_drawn s) []) ≡ 2
rule-word s t = rw (rule-kind s t)

bare-word : (k : ℕ) → k < 2 → length (get_or line_words k []) ≤ 5
bare-word zero h = omega arith
bare-word (suc zero) h = omega arith
bare-word (suc (suc k)) h = absurd (omega arith)

module _ (n : ℕ) (some : 1 ≤ n) (few : n ≤ 64) where
  drawn_length : (s : ℕ) → length (load_name (draw 1 s % n)) ≤ 3
  drawn_length s = load_name-length (draw 1 s % n) (omega (arith, mod-lt (draw 1 s) {m = n} some))

  drawn_short : (s : ℕ) → ShortLiteral (literal_drawn n s)
  drawn_short s = literal-size (eqb (draw 2 s % 2) 1) (load_name (draw 1 s % n)) (drawn_length s)

  module _ (s : ℕ) where
    abbrev body : List Literal
    body = literals_drawn n (state_after 3 s) (literal_count s)

    body-short : size true (body_tokens body) ≤ 9 * literal_count s
    body-short =
        let each = literals-each n ShortLiteral drawn_short (state_after 3 s) (literal_count s) in
        rw (literals-length n (state_after 3 s) (literal_count s)) at (body-size body true each)

    clause_bound : AtMost (length (get_or line_words (kind_drawn s) []) + 9 * literal_count s + 6) (clause_drawn n s)
    clause_bound =
        let w = load_name (draw 1 s % n) in
        let e = form-size (get_or line_words (kind_drawn s) []) false (Token.word w ∷ body_tokens body) in
        rw (clause-tokens w (kind_drawn s) body)
        (omega (arith, behind-size w (body_tokens body), body-short, drawn_length s))

    pub clause-size : AtMost 35 (clause_drawn n s)
    clause-size =
        by_test (is_rule s)
        (λ t. omega (arith, clause_bound, rule-word s t, rule-count s t))
        (λ t. omega (arith, clause_bound, bare-word (kind_drawn s) (other-low s t), other-count s t))

-- ---- the text
pub record Limits (n c : ℕ) : Type 0 where
  pub some : 1 ≤ n
  pub atoms-few : n ≤ 64
  pub clauses-few : c ≤ 256

pub load_limits : (n c : ℕ) → is_load n c ≡ true → Limits n c
unfolding is_load
load_limits n c h =
    let a = and_true_l (leb 1 n && leb n 64) (leb c 256) h in
    record {
      some = leb-true 1 n (and_true_l (leb 1 n) (leb n 64) a);
      atoms-few = leb-true n 64 (and_true_r (leb 1 n) (leb n 64) a);
      clauses-few = leb-true c 256 (and_true_r (leb 1 n && leb n 64) (leb c 256) h);
    }

-- the text of lines each of which has at most m bytes
lines_bound : (m : ℕ) (xs : List Line) → Each (AtMost m) xs → length (text_of (map line_text xs)) ≤ length xs * (m + 1)
lines_bound m xs h =
    rw (length-map xs line_text) at (text_bound m (map line_text xs) (each_map (λ l. length l ≤ m) line_text xs h))

lines-append : (xs ys : List Line)
    → length (text_of (map line_text (xs ++ ys)))
    ≡ length (text_of (map line_text xs)) + length (text_of (map line_text ys))
lines-append xs ys =
    ap (λ ls. length (text_of ls)) (map-append line_text xs ys)
    ∙ ap length (text-append (map line_text xs) (map line_text ys)) ∙ length-append (text_of (map line_text xs)) _

module _ (s n c : ℕ) (h : Limits n c) where
  atoms_bound : length (text_of (map line_text (atom_lines n))) ≤ n * 11
  atoms_bound =
      let few = h.atoms-few in
      rw (list_of-length n (λ a. Line.atom (load_name a))) at
      (lines_bound 10 (atom_lines n) (each_list_of (AtMost 10) n _ (λ a l. atom-size a (omega arith))))

  clauses_bound : length (text_of (map line_text (clauses_drawn n s c))) ≤ c * 36
  clauses_bound =
      rw (clauses-length n s c) at
      (lines_bound 35 (clauses_drawn n s c)
      (clauses-each n (AtMost 35) (clause-size n h.some h.atoms-few) s c))

  pub text-size : length (load_text s n c) ≤ longest_load
  text-size =
      let query = query_of_first ∷ [] in
      let front = lines-append (atom_lines n) (clauses_drawn n s c ++ query) in
      let rest = lines-append (clauses_drawn n s c) query in
      let last = lines_bound 10 query (query-size, tt) in
      omega (arith, atoms_bound, clauses_bound, h.atoms-few, h.clauses-few)
