-- What was read through lines is what the lines say, by the names of all of them. Assumes nothing.
use mathlib.Core.Path.{◌≡◌, refl, sym, ap, ◌∙◌}
use mathlib.Core.Bool.{Bool, true, false}
use mathlib.Core.List.{List, [], ◌∷◌, ◌++◌, map, map-append, append-nil, append_assoc}
use Prim.Native.Nat.{ℕ, ◌<◌}
use Rattle.words.specs.Bits.{has}
use Rattle.words.proofs.Bits.{has-zero}
use Rattle.words.proofs.Words.{has_word}
use Rattle.words.proofs.Tests.{by_test}
use Rattle.text.specs.Lines.{is_comment}
use Rattle.text.specs.Tokens.{tokens}
use Rattle.text.proofs.Each.{Each, each_gives}
use Rattle.grammar.specs.Line.{Line, Literal, body_names, line_names, is_line}
use Rattle.grammar.specs.LineOf.{line_of}
use Rattle.text.specs.Words.{names_in}
use Rattle.names.specs.Names.{atom_of, with_names}
use Rattle.names.proofs.Adding.{with_names-append, with_names-atom}
use Rattle.store.specs.Saying.{Said, nothing_said, some_on, atoms_by, or_atoms, renamed, said_by}
use Rattle.store.proofs.Saying.{said-names, on_none, on-append, atoms-has}
use Rattle.store.proofs.Encoded.{Known}
use Rattle.store.proofs.Lookups.{Agree, on_same, atoms-same, encoded-same}
use Rattle.checks.specs.Checks.{said_with, line_refusal, said_after}
use Rattle.checks.proofs.Passing.{line-passes}
use Rattle.checks.proofs.After.{after_comment, after_line}
use Rattle.reader.specs.Claims.{said_through, all_pass}
use Rattle.reader.specs.Contents.{form_of, names_of, names_through, Content, no_content, and_then, content_of, contents}
use Rattle.reader.proofs.FirstBad.{first_passes}
use Rattle.reader.proofs.FilledTables.{row_clause, row_constraint}
use Rattle.reader.proofs.WellFormedLines.{line_known}

-- The names

after-names : (st : Said) (l : List ℕ) → (said_after st l).names ≡ with_names st.names (names_of l)
unfolding names_of with_names
after-names st l =
    by_test (is_comment l) (λ c. rw (after_comment st l c, c))
    (λ c. rw (after_line st l c, c, said-names _ (line_of (tokens l))))

-- the names after a line, and those of the lines behind it, are those of all
names-behind : (st : Said) (l : List ℕ) (ls : List (List ℕ))
    → with_names (said_after st l).names (names_through ls) ≡ with_names st.names (names_through (l ∷ ls))
unfolding names_through
names-behind st l ls =
    ap (λ (ns : List (List ℕ)). with_names ns (names_through ls)) (after-names st l)
    ∙ sym (with_names-append st.names (names_of l) (names_through ls))

pub through_names : (ls : List (List ℕ)) (st : Said)
    → (said_through ls st).names ≡ with_names st.names (names_through ls)
unfolding said_through names_through with_names
through_names [] st = refl
through_names (l ∷ ls) st = through_names ls (said_after st l) ∙ names-behind st l ls

-- What is said

and_then-assoc : (x y z : Content) → and_then (and_then x y) z ≡ and_then x (and_then y z)
and_then-assoc x y z = simp append_assoc

module _ (ns : List (List ℕ)) where
  abbrev on : Bool → List Literal → ℕ → Bool
  on b l a = some_on (atom_of ns) b l a

  -- the word w has the atoms of the literals l, the negated ones where b holds
  abbrev Has : Bool → ℕ → List Literal → Type 0
  Has b w l = (a : ℕ) → a < 64 → has w a ≡ on b l a

  -- st says x, by the names ns
  pub record Saying (st : Said) (x : Content) : Type 0 where
    pub clauses_are : map row_clause st.clauses ≡ x.clauses
    pub constraints_are : map row_constraint st.constraints ≡ x.constraints
    pub plain_are : Has false st.plain x.observed
    pub negated_are : Has true st.negated x.observed
    pub queries_are : st.queries ≡ x.queries
    pub costs_are : st.costs ≡ x.costs
    pub editions_are : st.editions ≡ x.editions

  -- by its parts
  saying : {st : Said} {x : Content} → map row_clause st.clauses ≡ x.clauses
      → map row_constraint st.constraints ≡ x.constraints → Has false st.plain x.observed
      → Has true st.negated x.observed → st.queries ≡ x.queries → st.costs ≡ x.costs
      → st.editions ≡ x.editions → Saying st x
  saying c d p q f k e = record {
    clauses_are = c;
    constraints_are = d;
    plain_are = p;
    negated_are = q;
    queries_are = f;
    costs_are = k;
    editions_are = e;
  }

  pub nothing-saying : Saying nothing_said no_content
  nothing-saying =
      saying refl refl (λ a h. rw (has-zero, on_none (atom_of ns) false a))
      (λ a h. rw (has-zero, on_none (atom_of ns) true a)) refl refl refl

  none-saying : (st : Said) (x : Content) → Saying st x → (ms : List (List ℕ))
      → Saying (renamed ms st) (and_then x no_content)
  none-saying st x s ms =
      saying (s.clauses_are ∙ sym (append-nil _)) (s.constraints_are ∙ sym (append-nil _))
      (λ a h. rw append-nil (s.plain_are a h)) (λ a h. rw append-nil (s.negated_are a h))
      (s.queries_are ∙ sym (append-nil _)) (s.costs_are ∙ sym (append-nil _)) (s.editions_are ∙ sym (append-nil _))

  -- a line behind st, whose names have the same numbers among ms
  module _ (st : Said) (x : Content) (s : Saying st x) (ms : List (List ℕ)) where
    abbrev Same : List (List ℕ) → Type 0
    Same ws = Each (Agree (atom_of ms) (atom_of ns)) ws

    abbrev none : Saying (renamed ms st) (and_then x no_content)
    none = none-saying st x s ms

    -- the word of the atoms with literals' by ms has the atoms by ns
    seen-has : (b : Bool) (l : List Literal) (p : ℕ) → Same (body_names l) → Has b p x.observed
        → Has b (or_atoms p (atoms_by (atom_of ms) b l)) (x.observed ++ l)
    seen-has b l p k e a h =
        has_word 64 _ a h
        ∙ rw (atoms-has (atom_of ms) b l a h, e a h, on_same _ _ b l a k, on-append (atom_of ns) b x.observed l a)

    line-saying : (y : Line) → Same (line_names y) → Saying (said_by (renamed ms st) y) (and_then x (content_of ns y))
    unfolding said_by content_of
    line-saying Line.skipped h = none
    line-saying Line.no_form h = none
    line-saying (Line.clause k w l) h =
        saying
        (rw (h.0, atoms-same _ _ false l h.1, atoms-same _ _ true l h.1, map-append, s.clauses_are))
        none.constraints_are none.plain_are none.negated_are none.queries_are none.costs_are
        none.editions_are
    line-saying (Line.constraint k l) h =
        saying none.clauses_are
        (rw (atoms-same _ _ false l h, atoms-same _ _ true l h, map-append, s.constraints_are))
        none.plain_are none.negated_are none.queries_are none.costs_are none.editions_are
    line-saying (Line.seen y) h =
        saying none.clauses_are none.constraints_are
        (seen-has false (y ∷ []) _ h s.plain_are) (seen-has true (y ∷ []) _ h s.negated_are) none.queries_are
        none.costs_are none.editions_are
    line-saying (Line.query f) h =
        saying none.clauses_are none.constraints_are none.plain_are none.negated_are
        (rw (encoded-same _ _ f h, s.queries_are)) none.costs_are none.editions_are
    line-saying (Line.cost w y z) h =
        saying none.clauses_are none.constraints_are none.plain_are none.negated_are
        none.queries_are (rw (h.0, s.costs_are)) none.editions_are
    line-saying (Line.atom w) h = none
    line-saying (Line.edition e) h =
        saying none.clauses_are none.constraints_are none.plain_are none.negated_are none.queries_are
        none.costs_are (rw s.editions_are)

  -- one line that passes, with the names of the lines behind it still to come
  module _ (st : Said) (x : Content) (s : Saying st x) (l : List ℕ) (ls : List (List ℕ)) where
    form-saying : is_line (line_of (tokens l)) ≡ true
        → ns ≡ with_names (with_names st.names (names_in (tokens l))) (names_through ls)
        → Saying (said_with st (tokens l)) (and_then x (content_of ns (line_of (tokens l))))
    form-saying p e =
        let ms : List (List ℕ) = with_names st.names (names_in (tokens l)) in
        let y = line_of (tokens l) in
        line-saying st x s ms y
        (each_gives (Known ms) (Agree (atom_of ms) (atom_of ns))
        (λ w k. rw e (sym (with_names-atom ms (names_through ls) w k))) (line_names y) (line_known st l p))

    after-saying : line_refusal st l ≡ 0 → ns ≡ with_names (with_names st.names (names_of l)) (names_through ls)
        → Saying (said_after st l) (and_then x (content_of ns (form_of l)))
    unfolding form_of names_of content_of
    after-saying p e =
        by_test (is_comment l) (λ c. rw (after_comment st l c, c) (none-saying st x s st.names))
        (λ c. rw (after_line st l c, c) (form-saying (line-passes st l p c).1.is-line (rw c at e)))

  pub through_saying : (ls : List (List ℕ)) (st : Said) (x : Content) → Saying st x → all_pass ls st ≡ true
      → ns ≡ with_names st.names (names_through ls) → Saying (said_through ls st) (and_then x (contents ns ls))
  unfolding said_through contents
  through_saying [] st x s h e = none-saying st x s st.names
  through_saying (l ∷ ls) st x s h e =
      let p = first_passes l ls st h in
      let behind = e ∙ sym (names-behind st l ls) in
      let here = behind ∙ ap (λ (ms : List (List ℕ)). with_names ms (names_through ls)) (after-names st l) in
      rw (and_then-assoc) at
      (through_saying ls (said_after st l) _ (after-saying st x s l ls p.0 here) p.1 behind)
