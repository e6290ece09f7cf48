-- What is read is spelled: what tokens are read as is no form, or a line that spells them.
--
--   BodySpells m x    the literals x, if any, are of names, and with a closing bracket they spell what the items m do
--   Right ts x        the line x is no form, or passes is_line and spells ts
-- Assumes nothing.
use mathlib.Core.Path.{◌≡◌, refl, sym, ◌∙◌}
use mathlib.Core.Bool.{Bool, true, false, not, true≢false}
use mathlib.Core.List.{List, [], ◌∷◌, ◌++◌, append_assoc, append-nil}
use mathlib.Core.Logic.{◌⊎◌, inl, inr}
use mathlib.Core.Option.{Option}
use Prim.Native.Nat.{ℕ, ◌+◌, ◌-◌, ◌≤◌, ◌<◌}
use native.Mathlib.Omega.{arith}
use lib.Dec.{eqb, ltb}
use lib.ListN.{length, get_or}
use borrow.Author.Tests.{ltb-true, ltb-false, lt-ltb, eqb-true, eqb-false}
use Rattle.words.specs.Choice.{pick}
use Rattle.text.specs.Tokens.{Token}
use Rattle.text.proofs.ByteLaws.{and_true_both}
use Rattle.formulas.specs.Parsing.{Items}
use Rattle.formulas.specs.Sentence.{Sentence, is_sentence}
use Rattle.formulas.specs.Items.{Item, items_of}
use Rattle.formulas.proofs.NameSentence.{name-tokens, name-is-sentence}
use Rattle.formulas.proofs.Spelling.{spelled_items, AreSentences, Spells, items_spell}
use Rattle.grammar.specs.Line.{Literal, Line, line_words, body_tokens, line_tokens, are_named, takes}
use Rattle.grammar.specs.Line.{is_line}
use Rattle.grammar.specs.LineOf.{with_sentence, literals_of, with_body, seen_of, clause_of, query_of, body_line}
use Rattle.grammar.specs.LineOf.{of_kind}
use Rattle.grammar.specs.LineOf.{with_items, flat_words, cost_line, atom_line, edition_line, with_words, behind_word}
use Rattle.grammar.specs.LineOf.{kind_of, line_of, is_no_form}
use Rattle.grammar.proofs.KindLaws.{kind-word}
use Rattle.grammar.proofs.Flat.{Words, FlatSpells, flat_spells}
use Rattle.grammar.proofs.Costs.{cost-spells}
use Rattle.grammar.proofs.Atoms.{atom-spells}
use Rattle.grammar.proofs.Editions.{edition-spells}

abbrev BodySpells : List Item → Option (List Literal) → Type 0
BodySpells m Option.none = Unit {0}
BodySpells m (Option.some ls) = (spelled_items m ≡ body_tokens ls ++ (Token.closing ∷ [])) × (are_named ls ≡ true)

sentence-spells : (f : Sentence) (m : List Item) (x : Option (List Literal)) → is_sentence f ≡ true → BodySpells m x
    → BodySpells (Item.formula f ∷ m) (with_sentence f x)
unfolding spelled_items body_tokens are_named
sentence-spells (Sentence.name w) m Option.none e h = tt
sentence-spells (Sentence.name w) m (Option.some ls) e h = (rw (append_assoc, h.0), rw (e, h.1))
sentence-spells (Sentence.negation (Sentence.name w)) m Option.none e h = tt
sentence-spells (Sentence.negation (Sentence.name w)) m (Option.some ls) e h = (rw (append_assoc, h.0), rw (e, h.1))
sentence-spells (Sentence.negation (Sentence.negation f)) m x e h = tt
sentence-spells (Sentence.negation (Sentence.joined k f g)) m x e h = tt
sentence-spells (Sentence.joined k f g) m x e h = tt

body-spells : (m : List Item) → AreSentences m → BodySpells m (literals_of m)
unfolding literals_of spelled_items body_tokens are_named
body-spells [] h = tt
body-spells (Item.closing ∷ []) h = (refl, refl)
body-spells (Item.closing ∷ (i ∷ m)) h = tt
body-spells (Item.formula f ∷ m) h = sentence-spells f m (literals_of m) h.0 (body-spells m h.1)

abbrev pub Right : List Token → Line → Type 0
Right ts x = (x ≡ Line.no_form) ⊎ ((is_line x ≡ true) × (line_tokens x ≡ ts))

module _ (w : List ℕ) (ts : List Token) where
  -- the tokens of a line with the word w
  abbrev opened : List Token
  opened = Token.opening ∷ (Token.word w ∷ ts)

  picked-right : (b : Bool) (x y : Line) → (b ≡ true → Right opened x) → (b ≡ false → Right opened y)
      → Right opened (pick b x y)
  picked-right true x y h i = h refl
  picked-right false x y h i = i refl

  -- literals, as many as a line of kind k takes
  body-right : (k : ℕ) (make : List Literal → Line) (m : List Item) (x : Option (List Literal)) → BodySpells m x
      → ((ls : List Literal) → BodySpells m (Option.some ls) → takes k (length ls) ≡ true → Right opened (make ls))
      → Right opened (with_body k make x)
  body-right k make m Option.none b h = inl refl
  body-right k make m (Option.some ls) b h = picked-right (takes k (length ls)) (make ls) _ (h ls b) (λ e. inl refl)

  clause-right : (k : ℕ) (m : List Item) → k < 3 → w ≡ get_or line_words k [] → Spells ts (Option.some m)
      → Right opened (clause_of k m)
  unfolding spelled_items line_tokens is_line
  clause-right k [] i e h = inl refl
  clause-right k (Item.closing ∷ m) i e h = inl refl
  clause-right k (Item.formula (Sentence.negation f) ∷ m) i e h = inl refl
  clause-right k (Item.formula (Sentence.joined j f g) ∷ m) i e h = inl refl
  clause-right k (Item.formula (Sentence.name v) ∷ m) i e h =
      body-right k (Line.clause k v) m (literals_of m) (body-spells m h.1.1)
      (λ ls b t.
      inr (rw (lt-ltb k 3 i, ← name-is-sentence v, h.1.0, b.1, t), rw (e, h.0, name-tokens, b.0)))

  query-right : (m : List Item) → w ≡ get_or line_words 6 [] → Spells ts (Option.some m) → Right opened (query_of m)
  unfolding spelled_items line_tokens is_line
  query-right [] e h = inl refl
  query-right (Item.closing ∷ m) e h = inl refl
  query-right (Item.formula f ∷ []) e h = inl refl
  query-right (Item.formula f ∷ (Item.formula g ∷ m)) e h = inl refl
  query-right (Item.formula f ∷ (Item.closing ∷ (i ∷ m))) e h = inl refl
  query-right (Item.formula f ∷ (Item.closing ∷ [])) e h = inr (h.1.0, rw (e, h.0))

  -- lines of literals alone
  seen-right : (m : List Item) (ls : List Literal) → w ≡ get_or line_words 5 [] → Spells ts (Option.some m)
      → BodySpells m (Option.some ls) → Right opened (seen_of ls)
  unfolding line_tokens is_line are_named body_tokens
  seen-right m [] e h b = inl refl
  seen-right m (x ∷ (y ∷ ls)) e h b = inl refl
  seen-right m (x ∷ []) e h b = inr ((and_true_both _ _ b.1).0, rw (e, h.0, b.0, append-nil))

  module _ (m : List Item) (ls : List Literal) (h : Spells ts (Option.some m)) (b : BodySpells m (Option.some ls)) where
    constraint-right : (k : ℕ) → k < 2 → w ≡ get_or line_words (3 + k) [] → takes (3 + k) (length ls) ≡ true
        → Right opened (Line.constraint k ls)
    unfolding line_tokens is_line
    constraint-right k i e t = inr (rw (lt-ltb k 2 i, b.1, t), rw (e, h.0, b.0))

    literals-right : (k : ℕ) → 3 ≤ k → k < 6 → (k < length line_words → w ≡ get_or line_words k [])
        → takes k (length ls) ≡ true → Right opened (body_line k ls)
    literals-right k i f e t =
        picked-right (ltb k 5) (Line.constraint (k - 3) ls) _
        (λ q.
        let j = ltb-true k 5 q in
        let z : k ≡ 3 + (k - 3) = omega arith in
        constraint-right (k - 3) (omega arith) (rw z at (e (omega arith))) (rw z at t))
        (λ q.
        let z : k ≡ 5 = omega (arith, ltb-false k 5 q) in
        seen-right m ls (rw z at (e (omega arith))) h b)

  kind-right : (k : ℕ) (m : List Item) → k < 7 → (k < length line_words → w ≡ get_or line_words k [])
      → Spells ts (Option.some m) → Right opened (of_kind k m)
  kind-right k m b e h =
      picked-right (ltb k 3) (clause_of k m) _ (λ q. let i = ltb-true k 3 q in clause-right k m i (e (omega arith)) h)
      (λ q. picked-right (eqb k 6) (query_of m) _
      (λ q. let z = eqb-true k 6 q in query-right m (rw z at (e (omega arith))) h)
      (λ r. body-right k (body_line k) m (literals_of m) (body-spells m h.1)
      (λ ls s t. literals-right m ls h s k (ltb-false k 3 q) (let n = eqb-false k 6 r in omega arith) e t)))

  items_right : (k : ℕ) (x : Items) → k < 7 → (k < length line_words → w ≡ get_or line_words k []) → Spells ts x
      → Right opened (with_items k x)
  items_right k Option.none b e h = inl refl
  items_right k (Option.some m) b e h = kind-right k m b e h

  -- flat lines
  words_right : (k : ℕ) (x : Words) → (k < length line_words → w ≡ get_or line_words k []) → FlatSpells ts x
      → Right opened (with_words k x)
  words_right k Option.none e h = inl refl
  words_right k (Option.some ws) e h =
      picked-right (eqb k 7) (cost_line ws) _
      (λ q. let z = eqb-true k 7 q in rw (rw z at (e (omega arith)), h) (cost-spells ws))
      (λ _. picked-right (eqb k 8) (atom_line ws) _
      (λ q. let z = eqb-true k 8 q in rw (rw z at (e (omega arith)), h) (atom-spells ws))
      (λ _. picked-right (eqb k 9) (edition_line ws) _
      (λ q. let z = eqb-true k 9 q in rw (rw z at (e (omega arith)), h) (edition-spells ws)) (λ _. inl refl)))

  behind-right : (k : ℕ) → (k < length line_words → w ≡ get_or line_words k []) → Right opened (behind_word k ts)
  behind-right k e =
      picked-right (ltb k 7) (with_items k (items_of ts)) _
      (λ q. items_right k (items_of ts) (ltb-true k 7 q) e (items_spell ts))
      (λ _. words_right k (flat_words ts) e (flat_spells ts))

pub line-right : (ts : List Token) → Right ts (line_of ts)
unfolding line_of is_line line_tokens
line-right [] = inr (refl, refl)
line-right (Token.closing ∷ ts) = inl refl
line-right (Token.word w ∷ ts) = inl refl
line-right (Token.opening ∷ []) = inl refl
line-right (Token.opening ∷ (Token.opening ∷ ts)) = inl refl
line-right (Token.opening ∷ (Token.closing ∷ ts)) = inl refl
line-right (Token.opening ∷ (Token.word w ∷ ts)) = behind-right w ts (kind_of w) (kind-word w)

-- What follows for a line that is no form, and for one that is

form_true : (x : Line) → is_line x ≡ true → is_no_form x ≡ false
unfolding is_line
form_true Line.skipped h = refl
form_true Line.no_form h = absurd (true≢false (sym h))
form_true (Line.clause k w ls) h = refl
form_true (Line.constraint k ls) h = refl
form_true (Line.seen x) h = refl
form_true (Line.query f) h = refl
form_true (Line.cost w p s) h = refl
form_true (Line.atom w) h = refl
form_true (Line.edition e) h = refl

module _ (ts : List Token) (x : Line) where
  right-spells : Right ts x → is_line x ≡ true → line_tokens x ≡ ts
  unfolding is_line
  right-spells (inl e) h = absurd (true≢false (sym (rw e at h)))
  right-spells (inr r) h = r.1

  right-other : Right ts x → is_line x ≡ false → x ≡ Line.no_form
  right-other (inl e) h = e
  right-other (inr r) h = absurd (true≢false (sym r.0 ∙ h))

  right_is : Right ts x → is_no_form x ≡ not (is_line x)
  unfolding is_line
  right_is (inl e) = rw e
  right_is (inr r) = rw r.0 (form_true x r.0)

module _ (ts : List Token) where
  pub line-spells : is_line (line_of ts) ≡ true → line_tokens (line_of ts) ≡ ts
  line-spells h = right-spells ts (line_of ts) (line-right ts) h

  pub line_other : is_line (line_of ts) ≡ false → line_of ts ≡ Line.no_form
  line_other h = right-other ts (line_of ts) (line-right ts) h

  pub no_form-is : is_no_form (line_of ts) ≡ not (is_line (line_of ts))
  no_form-is = right_is ts (line_of ts) (line-right ts)
