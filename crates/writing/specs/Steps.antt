-- What the code's steps of writing answer and leave.
--
--   atom_texts, ..            the texts of the lines of each kind, by the names table na
--   edition_texts e           the text of the edition line of a case of edition e, where it has one
--   priced_text na pr a       the text of the line of atom a's price, where it is above 0
--   literal_tokens b w        the tokens of the literal on the atom named w, negated where b holds
--   opened_by w               the tokens that a form with the word w begins with
--   Closes g p ..             the line that started at the page g was closed and ended at the pen p
--   FormulaRoom ..            a formula begins at a place of the nodes, and there is room for its text
--   FormulaWritten ..         the formula that begins there was written; next is the place behind it
--   KindsSound cl n           the first n clauses are of a kind there is; BarsSound so of constraints
--   QueriesSound ..           the nodes of each of the first n formulas, at most 128, are one formula
--   Fit c t                   the tables t fit, and the case c with them is writable
--   first_page                the page at the output's first byte
use Rattle.std.specs.Prelude.{◌≡◌, Bool, true, false, List, [], ◌∷◌, ◌++◌, map, ℕ, zero, suc, ◌≤◌, ◌<◌, eqb}
use Rattle.std.specs.Prelude.{ltb, length, get_or, drop}
use Rattle.words.specs.Choice.{cons_if}
use Rattle.words.specs.Lists.{list_of}
use Rattle.logic.specs.Formula.{Formula}
use Rattle.logic.specs.Nodes as nodes
use Rattle.logic.specs.Nodes.{Spelling}
use Rattle.program.specs.declared.case.Case.{Case}
use Rattle.program.specs.Case.{part_size, kind_at, constraint_kind, nodes_of}
use Rattle.program.specs.Cause.{atoms_in}
use Rattle.text.specs.Tokens.{Token}
use Rattle.text.specs.Spelled.{spelled}
use Rattle.formulas.specs.Sentence.{tokens_of}
use Rattle.grammar.specs.Line.{Line, Literal, of_literal}
use Rattle.names.specs.Row.{name_in}
use Rattle.store.specs.Lent.{Lent}
use Rattle.reader.specs.Operation.{tables_fit}
use Rattle.output.specs.Writing.{Room}
use Rattle.spelling.specs.declared.Pen.{Pen}
use Rattle.spelling.specs.declared.Page.{Page}
use Rattle.spelling.specs.Pen.{inked, Spells}
use Rattle.spelling.specs.Page.{start_of, Sets}
use Rattle.writing.specs.declared.formula.Step.{Step}
use Rattle.writing.specs.Lines.{decoded, clause_line, constraint_line, query_line, cost_line, line_text}
use Rattle.writing.specs.Used.{clause_in, constraint_in, cost_of}
use Rattle.writing.specs.Operation.{writable}

-- a line for each of the first n atoms, clauses, constraints and formulas
abbrev pub atom_texts : List ℕ → ℕ → List (List ℕ)
atom_texts na n = list_of n (λ a. line_text (Line.atom (name_in na a)))

abbrev pub clause_texts : List ℕ → List ℕ → ℕ → List (List ℕ)
clause_texts na cl n = list_of n (λ k. line_text (clause_line (name_in na) (clause_in cl k)))

abbrev pub constraint_texts : List ℕ → List ℕ → ℕ → List (List ℕ)
constraint_texts na co n = list_of n (λ k. line_text (constraint_line (name_in na) (constraint_in co k)))

abbrev pub query_texts : List ℕ → List ℕ → List ℕ → ℕ → List (List ℕ)
query_texts na ns fo n = list_of n (λ q. line_text (query_line (name_in na) (nodes.formula_of (nodes_of ns fo q))))

-- a line in edition 2 alone
abbrev pub edition_texts : ℕ → List (List ℕ)
edition_texts e = cons_if (eqb e 2) (line_text (Line.edition 2)) []

-- a line for each atom of the word w, negated where b holds
abbrev pub seen_texts : List ℕ → Bool → ℕ → List (List ℕ)
seen_texts na b w = map (λ a. line_text (Line.seen (Literal.literal b (name_in na a)))) (atoms_in w)

abbrev pub priced_text : List ℕ → List ℕ → ℕ → List (List ℕ)
priced_text na pr a = cons_if (ltb 0 (get_or pr a 0)) (line_text (cost_line (name_in na) (cost_of pr a))) []

-- a line for each of the first n atoms with a price above 0
unfoldable pub cost_texts : List ℕ → List ℕ → ℕ → List (List ℕ)
cost_texts na pr zero = []
cost_texts na pr (suc a) = cost_texts na pr a ++ priced_text na pr a

abbrev pub literal_tokens : Bool → List ℕ → List Token
literal_tokens b w = tokens_of (of_literal (Literal.literal b w))

abbrev pub opened_by : List ℕ → List Token
opened_by w = Token.opening ∷ (Token.word w ∷ [])

-- the tokens before the closing bracket may be any
abbrev pub Closes : Page → Pen → List ℕ → Page → List ℕ → Type 0
Closes g p out r outAfter = (ts : List Token) (before : List ℕ) → Spells ts before (start_of g) p out
    → Sets (spelled (ts ++ (Token.closing ∷ [])) ∷ []) before g r outAfter

pub record FormulaRoom (name : ℕ → List ℕ) (ks : List ℕ) (at : ℕ) (p : Pen) : Type 0 where
  pub formula : Formula
  pub rest : List Formula
  pub spelling_is : nodes.spelled (drop at ks) ≡ Spelling.formulas (formula ∷ rest)
  pub room : Room (inked p (tokens_of (decoded name formula))) p.at

pub record FormulaWritten (name : ℕ → List ℕ) (ks : List ℕ) (at : ℕ) (out : List ℕ) (p : Pen) (r : Step)
    (outAfter : List ℕ) : Type 0 where
  pub onward : at < r.next
  pub within : r.next ≤ length ks
  pub spells : (f : Formula) (fs : List Formula) → nodes.spelled (drop at ks) ≡ Spelling.formulas (f ∷ fs)
      → Spells (tokens_of (decoded name f)) out p r.pen outAfter
  pub rest-is : (f : Formula) (fs : List Formula) → nodes.spelled (drop at ks) ≡ Spelling.formulas (f ∷ fs)
      → nodes.spelled (drop r.next ks) ≡ Spelling.formulas fs

abbrev pub KindsSound : List ℕ → ℕ → Type 0
KindsSound cl n = (k : ℕ) → k < n → kind_at cl k ≤ 2

abbrev pub BarsSound : List ℕ → ℕ → Type 0
BarsSound co n = (k : ℕ) → k < n → constraint_kind co k < 2

-- ns has the node count of each formula
abbrev pub QueriesSound : List ℕ → List ℕ → ℕ → Type 0
QueriesSound ns fo n = (q : ℕ) → q < n → (get_or ns q 0 ≤ part_size)
    × (nodes.spelled (nodes_of ns fo q) ≡ Spelling.formulas (nodes.formula_of (nodes_of ns fo q) ∷ []))

pub record Fit (c : Case) (t : Lent) : Type 0 where
  pub tables-fit : tables_fit t ≡ true
  pub is-writable : writable c t ≡ true

abbrev pub first_page : Page
first_page = record { at = 0; long = false }
