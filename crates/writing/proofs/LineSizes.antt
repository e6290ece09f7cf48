-- How long a line is, where names have at most 16 bytes.
--
--   ShortWord w          w has at most 20 bytes
--   Small n ts           the tokens ts are at most n, and their words are short
--   SmallLiteral x       the tokens of the literal x are few
--   ShortLine x          the text of the line x has at most 12,600 bytes
--   SmallFormula f       f has at most 128 nodes
-- Assumes nothing.
use mathlib.Core.Path.{◌≡◌}
use mathlib.Core.Bool.{Bool, true, false}
use mathlib.Core.List.{List, [], ◌∷◌, ◌++◌}
use Prim.Native.Nat.{ℕ, zero, suc, ◌+◌, ◌-◌, ◌*◌, ◌≤◌, max}
use native.Mathlib.Omega.{arith}
use lib.ListN.{length, get_or, length-append}
use Rattle.logic.specs.Formula.{Formula}
use Rattle.logic.specs.Nodes.{nodes}
use Rattle.program.specs.Case.{part_size}
use Rattle.program.specs.Cause.{atoms_in}
use Rattle.program.proofs.Atoms.{atoms-few}
use Rattle.text.specs.Tokens.{Token}
use Rattle.text.specs.Words.{EachWord}
use Rattle.text.proofs.Each.{Each}
use Rattle.text.proofs.Spelled.{spelled_bound}
use Rattle.formulas.specs.Sentence.{Sentence, form_words, form_tokens, tokens_of}
use Rattle.formulas.proofs.NameSentence.{name-tokens}
use Rattle.formulas.proofs.FormSentence.{negation-tokens, joined-tokens}
use Rattle.grammar.specs.Line.{Line, Literal, line_words, of_literal, body_tokens, line_tokens}
use Rattle.grammar.proofs.LineTokens.{body-none, body-first, atom-tokens, clause-tokens, constraint-tokens}
use Rattle.grammar.proofs.LineTokens.{seen-tokens, query-tokens, cost-tokens, edition-tokens}
use Rattle.reader.proofs.WellFormed.{Rows}
use Rattle.store.specs.Prices.{CostRow}
use Rattle.store.specs.Saying.{ClauseRow, ConstraintRow}
use Rattle.output.specs.Decimal.{decimal}
use Rattle.output.proofs.Decimals.{decimal-length}
use Rattle.writing.specs.Lines.{literals_on, literals_for, decoded, clause_line, constraint_line, query_line, cost_line}
use Rattle.writing.specs.Lines.{line_text}
use Rattle.writing.proofs.Rows.{rows-map, rows_append, rows_all}

abbrev ShortWord : List ℕ → Type 0
ShortWord w = length w ≤ 20

pub record Small (n : ℕ) (ts : List Token) : Type 0 where
  pub words : EachWord ShortWord ts
  pub few : length ts ≤ n

abbrev pub SmallLiteral : Literal → Type 0
SmallLiteral x = Small 4 (tokens_of (of_literal x))

abbrev pub ShortLine : Line → Type 0
ShortLine x = length (line_text x) ≤ 12600

abbrev pub SmallFormula : Formula → Type 0
SmallFormula f = length (nodes f) ≤ part_size

-- ---- words of tables
-- the length of the longest of the words ws
abbrev longest : List (List ℕ) → ℕ
longest [] = 0
longest (w ∷ ws) = max (length w) (longest ws)

word_at : (ws : List (List ℕ)) (k : ℕ) → length (get_or ws k []) ≤ longest ws
word_at [] k = omega arith
word_at (w ∷ ws) zero = omega arith
word_at (w ∷ ws) (suc k) = omega (arith, word_at ws k)

form-word : (k : ℕ) → ShortWord (get_or form_words k [])
form-word k = omega (arith, word_at form_words k)

line_word : (k : ℕ) → ShortWord (get_or line_words k [])
line_word k = omega (arith, word_at line_words k)

-- ---- few tokens
each-word-append : (P : List ℕ → Type 0) (ts us : List Token) → EachWord P ts → EachWord P us → EachWord P (ts ++ us)
each-word-append P [] us h k = k
each-word-append P (Token.opening ∷ ts) us h k = each-word-append P ts us h k
each-word-append P (Token.closing ∷ ts) us h k = each-word-append P ts us h k
each-word-append P (Token.word w ∷ ts) us h k = (h.0, each-word-append P ts us h.1 k)

small-le : {m n : ℕ} {ts : List Token} → m ≤ n → Small m ts → Small n ts
small-le l h = record { words = h.words; few = omega (arith, h.few) }

small_word : (w : List ℕ) → ShortWord w → Small 1 (Token.word w ∷ [])
small_word w h = record { words = (h, tt); few = omega arith }

small-append : {m n : ℕ} {ts us : List Token} → Small m ts → Small n us → Small (m + n) (ts ++ us)
small-append {ts} {us} h k = record {
  words = each-word-append ShortWord ts us h.words k.words;
  few = omega (arith, h.few, k.few, length-append ts us);
}

small-form : {n : ℕ} {w : List ℕ} {ts : List Token} → ShortWord w → Small n ts → Small (n + 3) (form_tokens w ts)
small-form {ts} k h = record {
  words = (k, each-word-append ShortWord ts (Token.closing ∷ []) h.words tt);
  few = omega (arith, h.few, length-append ts (Token.closing ∷ []));
}

-- ---- formulas
small-name : (w : List ℕ) → ShortWord w → Small 1 (tokens_of (Sentence.name w))
small-name w h = rw (name-tokens w) (small_word w h)

small-negation : {n : ℕ} (f : Sentence) → Small n (tokens_of f) → Small (n + 3) (tokens_of (Sentence.negation f))
small-negation f h = rw (negation-tokens f) (small-form (form-word 0) h)

small-joined : (k : ℕ) {m n : ℕ} (f g : Sentence) → Small m (tokens_of f) → Small n (tokens_of g)
    → Small (m + n + 3) (tokens_of (Sentence.joined k f g))
small-joined k f g h i = rw (joined-tokens f g k) (small-form (form-word (k - 64)) (small-append h i))

-- ---- literals
small-literal : (b : Bool) (w : List ℕ) → ShortWord w → SmallLiteral (Literal.literal b w)
small-literal false w h = small-le (omega arith) (small-name w h)
small-literal true w h = small-negation (Sentence.name w) (small-name w h)

small-body : (ls : List Literal) → Each SmallLiteral ls → Small (4 * length ls) (body_tokens ls)
small-body [] h = rw body-none (record { words = tt; few = omega arith })
small-body (x ∷ ls) h = rw (body-first x ls) (small-le (omega arith) (small-append h.0 (small-body ls h.1)))

-- the literals of a body
small-literals : (ls : List Literal) → Rows SmallLiteral 128 ls → Small 512 (body_tokens ls)
small-literals ls h = small-le (omega (arith, h.few)) (small-body ls h.each)

-- ---- lines
-- the text of at most 600 tokens
tokens-short : (x : Line) → Small 600 (line_tokens x) → ShortLine x
tokens-short x h = omega (arith, spelled_bound false (line_tokens x) h.words, h.few)

-- the line x is the form with the word w and at most 597 tokens ts behind it
form-short : (x : Line) {w : List ℕ} {ts : List Token} → line_tokens x ≡ form_tokens w ts → ShortWord w → Small 597 ts
    → ShortLine x
form-short x e h k = tokens-short x (rw e (small-form h k))

pub atom-short : (w : List ℕ) → length w ≤ 16 → ShortLine (Line.atom w)
atom-short w h =
    form-short (Line.atom w) (atom-tokens w) (line_word 8) (small-le (omega arith) (small_word w (omega arith)))

pub edition-short : (e : ℕ) → ShortLine (Line.edition e)
edition-short e =
    form-short (Line.edition e) (edition-tokens e) (line_word 9)
    (small-le (omega arith) (small_word ((48 + e) ∷ []) (omega arith)))

pub seen-short : (x : Literal) → SmallLiteral x → ShortLine (Line.seen x)
seen-short x h = form-short (Line.seen x) (seen-tokens x) (line_word 5) (small-le (omega arith) h)

module _ (name : ℕ → List ℕ) (short : (a : ℕ) → length (name a) ≤ 16) where
  name-word : (a : ℕ) → ShortWord (name a)
  name-word a = omega (arith, short a)

  literals-on : (b : Bool) (w : ℕ) → Rows SmallLiteral 64 (literals_on name b (atoms_in w))
  literals-on b w =
      rows-map SmallLiteral (λ a. Literal.literal b (name a)) 64 (atoms_in w)
      (rows_all _ (λ a. small-literal b (name a) (name-word a)) 64 (atoms_in w) (atoms-few w 0 64))

  pub literals-small : (p q : ℕ) → Rows SmallLiteral 128 (literals_for name p q)
  literals-small p q = rows_append SmallLiteral 64 64 _ _ (literals-on false p) (literals-on true q)

  -- at most four tokens for each node, and one for a constant
  abbrev SmallDecoded : Formula → Type 0
  SmallDecoded f = Small (4 * length (nodes f) + 1) (tokens_of (decoded name f))

  -- the form of two operands with the node k
  form_small : (k : ℕ) (f g : Formula) → SmallDecoded f → SmallDecoded g
      → Small (4 * suc (length (nodes f ++ nodes g)) + 1)
      (tokens_of (Sentence.joined k (decoded name f) (decoded name g)))
  form_small k f g h i =
      small-le (omega (arith, length-append (nodes f) (nodes g)))
      (small-joined k (decoded name f) (decoded name g) h i)

  decoded-small : (f : Formula) → SmallDecoded f
  unfolding decoded nodes
  decoded-small Formula.truth = small-name [] (omega arith)
  decoded-small Formula.falsity = small-name [] (omega arith)
  decoded-small (Formula.atom a) = small-le (omega arith) (small-name (name a) (name-word a))
  decoded-small (Formula.negation f) = small-le (omega arith) (small-negation (decoded name f) (decoded-small f))
  decoded-small (Formula.conjunction f g) = form_small 65 f g (decoded-small f) (decoded-small g)
  decoded-small (Formula.disjunction f g) = form_small 66 f g (decoded-small f) (decoded-small g)
  decoded-small (Formula.implication f g) = form_small 67 f g (decoded-small f) (decoded-small g)
  decoded-small (Formula.equivalence f g) = form_small 68 f g (decoded-small f) (decoded-small g)

  pub clause-short : (c : ClauseRow) → ShortLine (clause_line name c)
  clause-short c =
      let ls = literals_for name c.plain c.negated in
      form-short (clause_line name c) (clause-tokens (name c.head) c.kind ls) (line_word c.kind)
      (small-le (omega arith)
      (small-append (small_word (name c.head) (name-word c.head))
      (small-literals ls (literals-small c.plain c.negated))))

  pub constraint-short : (c : ConstraintRow) → ShortLine (constraint_line name c)
  constraint-short c =
      let ls = literals_for name c.plain c.negated in
      form-short (constraint_line name c) (constraint-tokens c.kind ls) (line_word (3 + c.kind))
      (small-le (omega arith) (small-literals ls (literals-small c.plain c.negated)))

  pub query-short : (f : Formula) → SmallFormula f → ShortLine (query_line name f)
  query-short f h =
      form-short (query_line name f) (query-tokens (decoded name f)) (line_word 6)
      (small-le (omega arith) (decoded-small f))

  pub cost-short : (r : CostRow) → ShortLine (cost_line name r)
  cost-short r =
      let price = small_word (decimal r.price) (decimal-length r.price) in
      let supplement = small_word (decimal 0) (decimal-length 0) in
      form-short (cost_line name r) (cost-tokens (name r.atom) (decimal r.price) (decimal 0)) (line_word 7)
      (small-le (omega arith)
      (small-append (small_word (name r.atom) (name-word r.atom)) (small-append price supplement)))
