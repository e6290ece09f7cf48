-- What a line holds: its names are those among its tokens, what it brings is told by its form, a body has a literal,
-- a query has at most half as many nodes as the line has tokens, and an edition is one.
--
--   Bodied ls        there is a literal
--   ClauseShaped k   the literals of a clause of kind k are as many as it takes
--   Shaped n x       the bodies of the line x have a literal, a constraint its kind, a query at most n / 2 nodes, an
--                    edition line its edition
-- Assumes nothing.
use mathlib.Core.Path.{◌≡◌, refl, sym, ap, ◌∙◌}
use mathlib.Core.Bool.{true, false}
use mathlib.Core.List.{List, [], ◌∷◌, ◌++◌, append_assoc, append-nil}
use mathlib.Core.Logic.{inl, inr}
use Prim.Native.Nat.{ℕ, zero, suc, ◌+◌, ◌*◌, ◌≤◌, ◌<◌}
use native.Mathlib.Omega.{arith}
use lib.Dec.{ltb}
use lib.ListN.{length, get_or}
use Rattle.std.specs.Prelude.{None, Some}
use Rattle.std.specs.Prelude as code
use borrow.Author.Tests.{ltb-true, eqb-true, lt-ltb}
use Rattle.text.specs.Tokens.{Token}
use Rattle.text.specs.Words.{names_in, begins_with_letter}
use Rattle.text.proofs.NameLaws.{names-end, names-closing, names-name, names-other, names-form}
use Rattle.text.proofs.NumberLaws.{number-unlettered}
use Rattle.text.proofs.ByteLaws.{and_true_both}
use Rattle.text.proofs.Each.{Each}
use Rattle.formulas.specs.Sentence.{Sentence, sentence_names, form_tokens, tokens_of, is_sentence}
use Rattle.formulas.proofs.NameSentence.{name-is-sentence, name-names, negation-names}
use Rattle.formulas.proofs.FormSentence.{negation-is-sentence}
use Rattle.formulas.proofs.Sentences.{sentence-names}
use Rattle.formulas.proofs.Spelling.{Lettered, sentence-lettered}
use Rattle.formulas.specs.Parsing.{size_of}
use Rattle.formulas.specs.Items.{Item}
use Rattle.formulas.proofs.Sizes.{formula-size}
use Rattle.grammar.specs.Line.{Literal, Line, line_words, of_literal, body_tokens, line_tokens, are_named, takes}
use Rattle.grammar.specs.Line.{is_cost, is_edition, is_line, body_names, line_names}
use Rattle.grammar.specs.LineOf.{line_of}
use Rattle.grammar.specs.Bringing.{nothing}
use Rattle.grammar.specs.Parsing.{Brought}
use Rattle.grammar.specs.declared.line.Form.{Form}
use Rattle.grammar.specs.declared.line.Form.TheVariants.{Skipped, Clause, Constraint, Seen, Query, Cost, Atom}
use Rattle.grammar.specs.declared.line.Form.TheVariants.{Edition}
use Rattle.grammar.proofs.Editions.{edition-number}
use Rattle.grammar.proofs.LineReading.{sentence-read, ClauseParts, clause-parts, ConstraintParts}
use Rattle.grammar.proofs.LineReading.{constraint-parts}
use Rattle.grammar.proofs.Spelling.{Right, line-right, line-spells}

-- Names

literal-names : (x : Literal) → sentence_names (of_literal x) ≡ body_names (x ∷ [])
literal-names (Literal.literal false w) = name-names w
literal-names (Literal.literal true w) = negation-names w

body-names : (ls : List Literal) (ts : List Token) → are_named ls ≡ true
    → names_in (body_tokens ls ++ ts) ≡ body_names ls ++ names_in ts
unfolding body_tokens are_named
body-names [] ts h = refl
body-names (Literal.literal b w ∷ ls) ts h =
    let x = Literal.literal b w in
    let a = and_true_both (is_sentence (of_literal x)) (are_named ls) h in
    rw (append_assoc, sentence-names (of_literal x) _ a.0, literal-names, body-names ls ts a.1)

-- a line with the word w, of whose tokens ns are the names
form-names : (w : List ℕ) (ts : List Token) {ns : List (List ℕ)}
    → names_in (ts ++ (Token.closing ∷ [])) ≡ ns ++ names_in (Token.closing ∷ []) → names_in (form_tokens w ts) ≡ ns
form-names w ts h = names-form (ts ++ (Token.closing ∷ [])) w ∙ h ∙ rw (names-closing, names-end, append-nil)

-- numbers are no names
cost-names : (w p s : List ℕ) → is_cost w p s ≡ true
    → names_in (Token.word w ∷ (Token.word p ∷ (Token.word s ∷ (Token.closing ∷ []))))
    ≡ (w ∷ []) ++ names_in (Token.closing ∷ [])
cost-names w p s h =
    let a = and_true_both _ _ h in
    let b = and_true_both _ _ a.0 in
    rw (
      names-name _ w b.0,
      names-other _ p (number-unlettered p b.1),
      names-other _ s (number-unlettered s a.1),
    )

clause-names : (k : ℕ) (w : List ℕ) (ls : List Literal) → is_line (Line.clause k w ls) ≡ true
    → names_in (form_tokens (get_or line_words k []) (Token.word w ∷ body_tokens ls)) ≡ w ∷ body_names ls
clause-names k w ls h =
    let p = clause-parts {k = k} {w = w} {ls = ls} h in
    form-names (get_or line_words k []) (Token.word w ∷ body_tokens ls)
    (rw (names-name _ w p.head, body-names ls _ p.body))

pub names_are : (x : Line) → is_line x ≡ true → names_in (line_tokens x) ≡ line_names x
unfolding line_tokens is_line
names_are Line.skipped h = names-end
names_are Line.no_form h = names-end
names_are (Line.clause k w ls) h = clause-names k w ls h
names_are (Line.constraint k ls) h =
    form-names (get_or line_words (3 + k) []) (body_tokens ls)
    (body-names ls _ (constraint-parts {k = k} {ls = ls} h).body)
names_are (Line.seen x) h =
    form-names (get_or line_words 5 []) (tokens_of (of_literal x)) (sentence-names (of_literal x) _ h) ∙ literal-names x
names_are (Line.query f) h = form-names (get_or line_words 6 []) (tokens_of f) (sentence-names f _ h)
names_are (Line.cost w p s) h =
    form-names (get_or line_words 7 []) (Token.word w ∷ (Token.word p ∷ (Token.word s ∷ []))) (cost-names w p s h)
names_are (Line.atom w) h = form-names (get_or line_words 8 []) (Token.word w ∷ []) (names-name _ w h)
names_are (Line.edition e) h =
    let w = (48 + e) ∷ [] in
    form-names (get_or line_words 9 []) (Token.word w ∷ []) (names-other _ w (number-unlettered w (edition-number e h)))

pub line-names : (ts : List Token) → is_line (line_of ts) ≡ true → names_in ts ≡ line_names (line_of ts)
line-names ts h = sym (ap names_in (line-spells ts h)) ∙ names_are (line_of ts) h

-- they begin with a letter

body-lettered : (ls : List Literal) → are_named ls ≡ true → Each Lettered (body_names ls)
unfolding are_named
body-lettered [] h = tt
body-lettered (Literal.literal b w ∷ ls) h =
    let x = Literal.literal b w in
    let a = and_true_both (is_sentence (of_literal x)) (are_named ls) h in
    let first = rw (literal-names x) at (sentence-lettered (of_literal x) a.0) in
    (first.0, body-lettered ls a.1)

pub line-lettered : (x : Line) → is_line x ≡ true → Each Lettered (line_names x)
unfolding is_line
line-lettered Line.skipped h = tt
line-lettered Line.no_form h = tt
line-lettered (Line.clause k w ls) h =
    let p = clause-parts {k = k} {w = w} {ls = ls} h in (p.head, body-lettered ls p.body)
line-lettered (Line.constraint k ls) h = body-lettered ls (constraint-parts {k = k} {ls = ls} h).body
line-lettered (Line.seen x) h = rw (literal-names x) at (sentence-lettered (of_literal x) h)
line-lettered (Line.query f) h = sentence-lettered f h
line-lettered (Line.cost w p s) h = ((and_true_both _ _ (and_true_both _ _ h).0).0, tt)
line-lettered (Line.atom w) h = (h, tt)
line-lettered (Line.edition e) h = tt

-- and where they do, literals are of names
pub literal-sentence : (x : Literal) → Each Lettered (body_names (x ∷ [])) → is_sentence (of_literal x) ≡ true
literal-sentence (Literal.literal false w) h = name-is-sentence w ∙ h.0
literal-sentence (Literal.literal true w) h = negation-is-sentence (Sentence.name w) ∙ name-is-sentence w ∙ h.0

pub lettered-body : (ls : List Literal) → Each Lettered (body_names ls) → are_named ls ≡ true
unfolding are_named
lettered-body [] h = refl
lettered-body (Literal.literal b w ∷ ls) h =
    rw (literal-sentence (Literal.literal b w) (h.0, tt), lettered-body ls h.1)

-- when a line of each kind is one
pub clause-is-line : {k : ℕ} {w : List ℕ} {ls : List Literal} → ClauseParts k w ls → is_line (Line.clause k w ls) ≡ true
unfolding is_line
clause-is-line {k} p = rw (lt-ltb k 3 p.kind-lt, p.head, p.body, p.fits)

pub constraint-is-line : {k : ℕ} {ls : List Literal} → ConstraintParts k ls → is_line (Line.constraint k ls) ≡ true
unfolding is_line
constraint-is-line {k} p = rw (lt-ltb k 2 p.kind-lt, p.body, p.fits)

pub numbers_are_line : (w p s : List ℕ) → is_line (Line.cost w p s) ≡ is_cost w p s
unfolding is_line
numbers_are_line w p s = refl

pub literal-is-line : (x : Literal) → is_line (Line.seen x) ≡ is_sentence (of_literal x)
unfolding is_line
literal-is-line x = refl

pub sentence-is-line : (f : Sentence) → is_line (Line.query f) ≡ is_sentence f
unfolding is_line
sentence-is-line f = refl

pub name-is-line : (w : List ℕ) → is_line (Line.atom w) ≡ begins_with_letter w
unfolding is_line
name-is-line w = refl

pub edition-is-line : (e : ℕ) → is_line (Line.edition e) ≡ is_edition e
unfolding is_line
edition-is-line e = refl

-- What a line brings, by its form

-- one with none of these forms brings nothing
pub brought-nothing : (x : code.Option Form) → ((k a e n : ℕ) → x ≡ Some (Clause k a e n) → ⊥)
    → ((k at n : ℕ) → x ≡ Some (Constraint k at n) → ⊥) → ((at d : ℕ) → x ≡ Some (Query at d) → ⊥)
    → ((a e p s : ℕ) → x ≡ Some (Cost a e p s) → ⊥) → ((n : ℕ) → x ≡ Some (Edition n) → ⊥) → Brought x nothing
brought-nothing None f g h i j l y q = rw q
brought-nothing (Some Skipped) f g h i j l y q = rw q
brought-nothing (Some (Clause k a e n)) f g h i j l y q = absurd (f k a e n refl)
brought-nothing (Some (Constraint k at n)) f g h i j l y q = absurd (g k at n refl)
brought-nothing (Some (Seen at)) f g h i j l y q = rw q.line-is
brought-nothing (Some (Query at d)) f g h i j l y q = absurd (h at d refl)
brought-nothing (Some (Cost a e p s)) f g h i j l y q = absurd (i a e p s refl)
brought-nothing (Some (Atom a e)) f g h i j l y q = rw q.1
brought-nothing (Some (Edition n)) f g h i j l y q = absurd (j n refl)

-- Literals and nodes

abbrev pub Bodied : List Literal → Type 0
Bodied [] = ⊥
Bodied (x ∷ ls) = Unit {0}

-- a fact and an assumption have no literal, a rule has one
abbrev pub ClauseShaped : ℕ → List Literal → Type 0
ClauseShaped zero ls = ls ≡ []
ClauseShaped (suc zero) ls = ls ≡ []
ClauseShaped (suc (suc zero)) ls = Bodied ls
ClauseShaped (suc (suc (suc k))) ls = ⊥

abbrev pub Shaped : ℕ → Line → Type 0
Shaped n Line.skipped = Unit {0}
Shaped n Line.no_form = Unit {0}
Shaped n (Line.clause k w ls) = ClauseShaped k ls
Shaped n (Line.constraint k ls) = (k < 2) × Bodied ls
Shaped n (Line.seen x) = Unit {0}
Shaped n (Line.query f) = 2 * size_of f ≤ n
Shaped n (Line.cost w p s) = Unit {0}
Shaped n (Line.atom w) = Unit {0}
Shaped n (Line.edition e) = is_edition e ≡ true

no_literal : (ls : List Literal) → length ls ≡ 0 → ls ≡ []
no_literal [] h = refl
no_literal (x ∷ ls) h = absurd (omega arith)

some-literal : (ls : List Literal) → ltb 0 (length ls) ≡ true → Bodied ls
some-literal [] h = absurd (omega (arith, ltb-true 0 0 h))
some-literal (x ∷ ls) h = tt

clause-shaped : (k : ℕ) (ls : List Literal) → k < 3 → takes k (length ls) ≡ true → ClauseShaped k ls
clause-shaped zero ls i h = no_literal ls (eqb-true (length ls) 0 h)
clause-shaped (suc zero) ls i h = no_literal ls (eqb-true (length ls) 0 h)
clause-shaped (suc (suc zero)) ls i h = some-literal ls h
clause-shaped (suc (suc (suc k))) ls i h = absurd (omega arith)

constraint-shaped : (k : ℕ) (ls : List Literal) → k < 2 → takes (3 + k) (length ls) ≡ true → (k < 2) × Bodied ls
constraint-shaped zero ls i h = (i, some-literal ls h)
constraint-shaped (suc zero) ls i h = (i, some-literal ls h)
constraint-shaped (suc (suc k)) ls i h = absurd (omega arith)

shaped : (x : Line) → is_line x ≡ true → Shaped (length (line_tokens x)) x
unfolding is_line line_tokens
shaped Line.skipped h = tt
shaped Line.no_form h = tt
shaped (Line.clause k w ls) h = let p = clause-parts h in clause-shaped k ls p.kind-lt p.fits
shaped (Line.constraint k ls) h = let p = constraint-parts h in constraint-shaped k ls p.kind-lt p.fits
shaped (Line.seen x) h = tt
shaped (Line.query f) h =
    omega (arith, formula-size (tokens_of f ++ (Token.closing ∷ [])) f (Item.closing ∷ []) (sentence-read f h))
shaped (Line.cost w p s) h = tt
shaped (Line.atom w) h = tt
shaped (Line.edition e) h = h

right-shaped : (ts : List Token) (x : Line) → Right ts x → Shaped (length ts) x
right-shaped ts x (inl e) = rw e tt
right-shaped ts x (inr r) = rw r.1 at (shaped x r.0)

pub line-shaped : (ts : List Token) → Shaped (length ts) (line_of ts)
line-shaped ts = right-shaped ts (line_of ts) (line-right ts)
