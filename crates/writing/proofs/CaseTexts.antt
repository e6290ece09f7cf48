-- The lines of a case, kind by kind, as the code writes them. Assumes nothing.
use mathlib.Core.Path.{◌≡◌, refl, sym, ap, ap₂, ◌∙◌}
use mathlib.Core.Bool.{Bool, true, false}
use mathlib.Core.List.{List, [], ◌∷◌, ◌++◌, map, map-append, append_assoc, append-nil}
use Prim.Native.Nat.{ℕ, zero, suc}
use lib.Dec.{eqb, ltb}
use lib.ListN.{get_or}
use Rattle.words.specs.Choice.{cons_if}
use Rattle.words.specs.Lists.{list_of}
use Rattle.words.proofs.Lists.{list_of-map}
use Rattle.program.specs.declared.case.Case.{Case}
use Rattle.program.specs.Cause.{atoms_in}
use Rattle.text.specs.Spelled.{text_of}
use Rattle.grammar.specs.Line.{Line, Literal}
use Rattle.names.specs.Row.{name_in}
use Rattle.store.specs.Lent.{Lent}
use Rattle.store.specs.Saying.{Said}
use Rattle.output.specs.Writing.{Room}
use Rattle.spelling.specs.declared.Page.{Page}
use Rattle.spelling.specs.Page.{Sets}
use Rattle.spelling.proofs.Pages.{sets-none}
use Rattle.writing.specs.Lines.{literals_on, literals_for, clause_line, constraint_line, query_line, cost_line}
use Rattle.writing.specs.Lines.{line_text}
use Rattle.writing.specs.Used.{clause_in, constraint_in, formula_in, cost_of, costs_in, said_of}
use Rattle.writing.specs.Operation.{case_lines}
use Rattle.writing.specs.Steps.{atom_texts, edition_texts, clause_texts, constraint_texts, seen_texts, query_texts}
use Rattle.writing.specs.Steps.{cost_texts, first_page}
use Rattle.writing.proofs.Ways.{LinesLeft, lines_start, lines-room, lines_more, lines_end}

-- ---- the lines of each kind
texts_of : {A : Type 0} (line : A → Line) (n : ℕ) (f : ℕ → A)
    → map line_text (map line (list_of n f)) ≡ list_of n (λ k. line_text (line (f k)))
texts_of line n f = ap (map line_text) (list_of-map n f line) ∙ list_of-map n (λ k. line (f k)) line_text

seen-texts : (na : List ℕ) (b : Bool) (l : List ℕ) → map line_text (map Line.seen (literals_on (name_in na) b l))
    ≡ map (λ a. line_text (Line.seen (Literal.literal b (name_in na a)))) l
seen-texts na b [] = refl
seen-texts na b (a ∷ l) =
    ap (λ (ls : List (List ℕ)). line_text (Line.seen (Literal.literal b (name_in na a))) ∷ ls) (seen-texts na b l)

cons_texts : {A : Type 0} (line : A → Line) (b : Bool) (x : A)
    → map line_text (map line (cons_if b x [])) ≡ cons_if b (line_text (line x)) []
cons_texts line true x = refl
cons_texts line false x = refl

-- the texts of lines in two parts
both_texts : (xs ys : List Line) {ls ms : List (List ℕ)} → map line_text xs ≡ ls → map line_text ys ≡ ms
    → map line_text (xs ++ ys) ≡ ls ++ ms
both_texts xs ys e f = map-append line_text xs ys ∙ ap₂ (λ (l m : List (List ℕ)). l ++ m) e f

cost-texts : (na pr : List ℕ) (n : ℕ)
    → map line_text (map (cost_line (name_in na)) (costs_in pr n)) ≡ cost_texts na pr n
unfolding costs_in cost_texts
cost-texts na pr zero = refl
cost-texts na pr (suc a) =
    ap (map line_text) (map-append (cost_line (name_in na)) (costs_in pr a) _)
    ∙ both_texts (map (cost_line (name_in na)) (costs_in pr a)) _ (cost-texts na pr a)
    (cons_texts (cost_line (name_in na)) (ltb 0 (get_or pr a 0)) (cost_of pr a))

observed_texts : (na : List ℕ) (p q : ℕ) → map line_text (map Line.seen (literals_for (name_in na) p q))
    ≡ seen_texts na false p ++ seen_texts na true q
observed_texts na p q =
    ap (map line_text) (map-append Line.seen (literals_on (name_in na) false (atoms_in p)) _)
    ∙ both_texts (map Line.seen (literals_on (name_in na) false (atoms_in p))) _ (seen-texts na false (atoms_in p))
    (seen-texts na true (atoms_in q))

-- ---- the lines of a case, one kind after another
module _ (c : Case) (t : Lent) where
  abbrev pub from_costs : List (List ℕ)
  from_costs = cost_texts t.names t.prices c.atoms

  abbrev pub from_queries : List (List ℕ)
  from_queries = query_texts t.names c.nodes t.formula c.formulas ++ from_costs

  abbrev pub from_negated : List (List ℕ)
  from_negated = seen_texts t.names true c.negated ++ from_queries

  abbrev pub from_seen : List (List ℕ)
  from_seen = seen_texts t.names false c.plain ++ from_negated

  abbrev pub from_constraints : List (List ℕ)
  from_constraints = constraint_texts t.names t.constraints c.constraints ++ from_seen

  abbrev pub from_clauses : List (List ℕ)
  from_clauses = clause_texts t.names t.clauses c.clauses ++ from_constraints

  abbrev pub from_editions : List (List ℕ)
  from_editions = edition_texts c.edition ++ from_clauses

  abbrev pub from_atoms : List (List ℕ)
  from_atoms = atom_texts t.names c.atoms ++ from_editions

  abbrev name : ℕ → List ℕ
  name = name_in t.names

  abbrev st : Said
  st = said_of c t

  case_texts : case_lines c t ≡ from_atoms
  case_texts =
      both_texts (map Line.atom st.names) _ (texts_of Line.atom c.atoms name)
      (both_texts (map Line.edition st.editions) _ (cons_texts Line.edition (eqb c.edition 2) 2)
      (both_texts (map (clause_line name) st.clauses) _
      (texts_of (clause_line name) c.clauses (clause_in t.clauses))
      (both_texts (map (constraint_line name) st.constraints) _
      (texts_of (constraint_line name) c.constraints (constraint_in t.constraints))
      (both_texts (map Line.seen (literals_for name c.plain c.negated)) _
      (observed_texts t.names c.plain c.negated)
      (both_texts (map (query_line name) st.queries) _
      (texts_of (query_line name) c.formulas (formula_in c t.formula))
      (cost-texts t.names t.prices c.atoms))
      ∙ append_assoc (seen_texts t.names false c.plain) _ _))))

  -- of the lines of the case those of left are still to be written
  abbrev pub CaseLeft : List ℕ → List (List ℕ) → Page → List ℕ → Type 0
  CaseLeft out left q out₁ = LinesLeft (case_lines c t) out first_page left q out₁

  pub case-start : (out : List ℕ) → CaseLeft out from_atoms first_page out
  case-start out = rw (← case_texts) (lines_start (case_lines c t) out first_page)

  module _ {out out₁ : List ℕ} {q : Page} (piece later : List (List ℕ)) (h : CaseLeft out (piece ++ later) q out₁) where
    pub case-room_for : Room (text_of (case_lines c t)) 0 → Room (text_of piece) q.at
    case-room_for r = lines-room h piece later refl r

    case-more : {r : Page} {out₂ : List ℕ} → Sets piece out₁ q r out₂ → CaseLeft out later r out₂
    case-more k = lines_more h piece later refl k

  -- what is left behind the lines of each kind
  module _ {out out₁ : List ℕ} {g₁ : Page} (h₁ : Sets (atom_texts t.names c.atoms) out first_page g₁ out₁) where
    pub behind-atom : CaseLeft out from_editions g₁ out₁
    behind-atom = case-more _ _ (case-start out) h₁

    module _ {out₂ : List ℕ} {g₂ : Page} (h₂ : Sets (edition_texts c.edition) out₁ g₁ g₂ out₂)
      where
        pub behind-edition : CaseLeft out from_clauses g₂ out₂
        behind-edition = case-more _ _ (behind-atom) h₂

        module _ {out₃ : List ℕ} {g₃ : Page} (h₃ : Sets (clause_texts t.names t.clauses c.clauses) out₂ g₂ g₃ out₃)
          where
            pub behind-clause : CaseLeft out from_constraints g₃ out₃
            behind-clause = case-more _ _ (behind-edition) h₃

            module _ {out₄ : List ℕ} {g₄ : Page}
                (h₄ : Sets (constraint_texts t.names t.constraints c.constraints) out₃ g₃ g₄ out₄)
              where
                pub behind-constraint : CaseLeft out from_seen g₄ out₄
                behind-constraint = case-more _ _ (behind-clause) h₄

                module _ {out₅ : List ℕ} {g₅ : Page} (h₅ : Sets (seen_texts t.names false c.plain) out₄ g₄ g₅ out₅)
                  where
                    pub behind-seen : CaseLeft out from_negated g₅ out₅
                    behind-seen = case-more _ _ (behind-constraint) h₅

                    module _ {out₆ : List ℕ} {g₆ : Page} (h₆ : Sets (seen_texts t.names true c.negated) out₅ g₅ g₆ out₆)
                      where
                        pub behind-negated : CaseLeft out from_queries g₆ out₆
                        behind-negated = case-more _ _ (behind-seen) h₆

                        module _ {out₇ : List ℕ} {g₇ : Page}
                            (h₇ : Sets (query_texts t.names c.nodes t.formula c.formulas) out₆ g₆ g₇ out₇)
                          where
                            pub behind-query : CaseLeft out from_costs g₇ out₇
                            behind-query = case-more _ _ (behind-negated) h₇

  pub case-room-last : {out out₁ : List ℕ} {q : Page} → CaseLeft out from_costs q out₁
      → Room (text_of (case_lines c t)) 0
      → Room (text_of from_costs) q.at
  case-room-last h r = lines-room h from_costs [] (sym (append-nil from_costs)) r

  pub case-end : {out out₁ out₂ : List ℕ} {q r : Page} → CaseLeft out from_costs q out₁ → Sets from_costs out₁ q r out₂
      → Sets (case_lines c t) out first_page r out₂
  case-end h k = lines_end (lines_more h from_costs [] (sym (append-nil from_costs)) k) refl

-- ---- the line l, where the test b holds
module _ (l : List ℕ) {b : Bool} where
  pub line_absent : b ≡ false → {out : List ℕ} {g : Page} → Sets (cons_if b l []) out g g out
  line_absent e {out} {g} = rw e (sets-none out g)

  module _ (e : b ≡ true) where
    pub line-room-there : {at : ℕ} → Room (text_of (cons_if b l [])) at → Room (text_of (l ∷ [])) at
    line-room-there r = rw e at r

    pub line-there : {out out₁ : List ℕ} {g r : Page} → Sets (l ∷ []) out g r out₁
        → Sets (cons_if b l []) out g r out₁
    line-there h = rw e h
