-- Laws of what a line says, of the atoms of its literals, and of the edition. Assumes nothing.
use mathlib.Core.Path.{◌≡◌, refl}
use mathlib.Core.Bool.{Bool, false, ◌||◌, or_assoc}
use mathlib.Core.List.{List, [], ◌∷◌, ◌++◌}
use Prim.Native.Nat.{ℕ, ◌^◌, ◌<◌}
use Rattle.words.specs.Bits.{has}
use Rattle.words.proofs.Words.{has_word, is_word}
use Rattle.text.proofs.Each.{Each}
use Rattle.formulas.specs.Sentence.{Sentence}
use Rattle.grammar.specs.Line.{Line, Literal}
use Rattle.names.specs.Names.{atom_of}
use Rattle.store.specs.Prices.{has_cost}
use Rattle.store.specs.Saying.{Said, last_or, some_on, atoms_by, encoded, clause_row, constraint_row, cost_row}
use Rattle.store.specs.Saying.{with_clause, with_constraint, with_observed, with_query, with_cost, said_by}
use Rattle.store.specs.Saying.{with_edition, is_second_cost}

pub said-names : (st : Said) (x : Line) → (said_by st x).names ≡ st.names
unfolding said_by
said-names st Line.skipped = refl
said-names st Line.no_form = refl
said-names st (Line.clause k w l) = refl
said-names st (Line.constraint k l) = refl
said-names st (Line.seen x) = refl
said-names st (Line.query f) = refl
said-names st (Line.cost w p s) = refl
said-names st (Line.atom w) = refl
said-names st (Line.edition e) = refl

-- by the kind of the line

module _ (st : Said) where
  pub clause-said : (k : ℕ) (w : List ℕ) (l : List Literal)
      → said_by st (Line.clause k w l) ≡ with_clause st (clause_row st.names k w l)
  unfolding said_by
  clause-said k w l = refl

  pub constraint-said : (k : ℕ) (l : List Literal)
      → said_by st (Line.constraint k l) ≡ with_constraint st (constraint_row st.names k l)
  unfolding said_by
  constraint-said k l = refl

  pub seen-said : (x : Literal) → said_by st (Line.seen x) ≡ with_observed st (x ∷ [])
  unfolding said_by
  seen-said x = refl

  pub query-said : (f : Sentence) → said_by st (Line.query f) ≡ with_query st (encoded st.names f)
  unfolding said_by
  query-said f = refl

  pub cost-said : (w p s : List ℕ) → said_by st (Line.cost w p s) ≡ with_cost st (cost_row st.names w p s)
  unfolding said_by
  cost-said w p s = refl

  pub atom-said : (w : List ℕ) → said_by st (Line.atom w) ≡ st
  unfolding said_by
  atom-said w = refl

  pub edition-said : (e : ℕ) → said_by st (Line.edition e) ≡ with_edition st e
  unfolding said_by
  edition-said e = refl

  pub clause_no_cost : (k : ℕ) (w : List ℕ) (l : List Literal) → is_second_cost st (Line.clause k w l) ≡ false
  unfolding is_second_cost
  clause_no_cost k w l = refl

  pub constraint_no_cost : (k : ℕ) (l : List Literal) → is_second_cost st (Line.constraint k l) ≡ false
  unfolding is_second_cost
  constraint_no_cost k l = refl

  pub seen_no_cost : (x : Literal) → is_second_cost st (Line.seen x) ≡ false
  unfolding is_second_cost
  seen_no_cost x = refl

  pub query_no_cost : (f : Sentence) → is_second_cost st (Line.query f) ≡ false
  unfolding is_second_cost
  query_no_cost f = refl

  pub cost-second : (w p s : List ℕ)
      → is_second_cost st (Line.cost w p s) ≡ has_cost st.costs (atom_of st.names w)
  unfolding is_second_cost
  cost-second w p s = refl

  pub atom_no_cost : (w : List ℕ) → is_second_cost st (Line.atom w) ≡ false
  unfolding is_second_cost
  atom_no_cost w = refl

  pub edition_no_cost : (e : ℕ) → is_second_cost st (Line.edition e) ≡ false
  unfolding is_second_cost
  edition_no_cost e = refl

-- the literals by a lookup of names

module _ (at : List ℕ → ℕ) (b : Bool) where
  pub on_none : (a : ℕ) → some_on at b [] a ≡ false
  unfolding some_on
  on_none a = refl

  pub on-append : (l m : List Literal) (a : ℕ) → some_on at b (l ++ m) a ≡ (some_on at b l a || some_on at b m a)
  unfolding some_on
  on-append [] m a = refl
  on-append (Literal.literal n w ∷ l) m a = rw (on-append l m a, or_assoc)

  pub atoms-has : (l : List Literal) (a : ℕ) → a < 64 → has (atoms_by at b l) a ≡ some_on at b l a
  unfolding atoms_by
  atoms-has l a h = has_word 64 (some_on at b l) a h

  -- a word with their bits has their atoms
  pub is-atoms : (w : ℕ) (l : List Literal) → w < 2 ^ 64 → ((a : ℕ) → a < 64 → has w a ≡ some_on at b l a)
      → w ≡ atoms_by at b l
  unfolding atoms_by
  is-atoms w l h e = is_word 64 w (some_on at b l) h e

-- the last of numbers

pub last_none : (d : ℕ) → last_or d [] ≡ d
unfolding last_or
last_none d = refl

pub last_push : (d : ℕ) (l : List ℕ) (e : ℕ) → last_or d (l ++ (e ∷ [])) ≡ e
unfolding last_or
last_push d [] e = refl
last_push d (x ∷ l) e = last_push x l e

-- it is as each of them is
pub last-each : (P : ℕ → Type 0) (d : ℕ) (l : List ℕ) → P d → Each P l → P (last_or d l)
unfolding last_or
last-each P d [] h k = h
last-each P d (x ∷ l) h k = last-each P x l k.0 k.1
