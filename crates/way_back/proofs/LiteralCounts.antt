-- The lines of what is well formed have as many literals as its bodies hold: those of clauses and constraints, in table
-- order, behind the atom lines and the edition line; the others have none.
-- Assumes nothing.
use mathlib.Core.Path.{◌≡◌, refl, sym, ap, ap₂, ◌∙◌}
use mathlib.Core.List.{List, [], ◌∷◌, ◌++◌, map, map-append, append_assoc}
use Prim.Native.Nat.{ℕ, ◌+◌, ◌≤◌}
use native.Mathlib.Nat.{lt_of_lt_of_le}
use native.Mathlib.Omega.{arith}
use lib.ListN.{length, length-append, length-map}
use lib.Pow.{pow_mono}
use Rattle.program.specs.Cause.{atoms_in}
use Rattle.program.proofs.Atoms.{atoms-length}
use Rattle.text.proofs.Each.{Each, each_append}
use Rattle.grammar.specs.Line.{Line}
use Rattle.store.specs.Saying.{Said}
use Rattle.store.proofs.BodySizes.{clause_body, constraint_body, said_bodies}
use Rattle.reader.proofs.WellFormed.{BitsBelow, ClauseFormed, ConstraintFormed}
use Rattle.writing.specs.Lines.{literals_on, literals_for, clause_line, constraint_line, query_line, cost_line}
use Rattle.writing.specs.Lines.{lines_of}
use Rattle.way_back.proofs.FirstOver.{FirstOver, all-few, first-over, over-behind, over-before}
use Rattle.way_back.specs.Bodies.{body_size, AllFew, FirstLong}
use Rattle.way_back.proofs.FittingLines.{literals_in}
use Rattle.way_back.proofs.WrittenLines.{Writes}

body-counted : (name : ℕ → List ℕ) (n p q : ℕ) → n ≤ 64 → BitsBelow n p q
    → length (literals_for name p q) ≡ body_size p q
body-counted name n p q few b =
    length-append (literals_on name _ (atoms_in p)) (literals_on name _ (atoms_in q))
    ∙ ap₂ ◌+◌
    (length-map (atoms_in p) _ ∙ atoms-length p (lt_of_lt_of_le b.plain-lt (pow_mono few)))
    (length-map (atoms_in q) _ ∙ atoms-length q (lt_of_lt_of_le b.negated-lt (pow_mono few)))

-- the line has at most 11 literals
abbrev Few : Line → Type 0
Few x = literals_in x ≤ 11

few-counted : (xs : List Line) → Each Few xs → Each (λ n. n ≤ 11) (map literals_in xs)
few-counted [] h = tt
few-counted (x ∷ xs) h = (h.0, few-counted xs h.1)

-- ---- a list of entries, each with its line
module _ {A : Type 0} (line : A → Line) where
  lines-counted : (P : A → Type 0) (size : A → ℕ) → ((a : A) → P a → literals_in (line a) ≡ size a) → (l : List A)
      → Each P l → map literals_in (map line l) ≡ map size l
  lines-counted P size e [] h = refl
  lines-counted P size e (a ∷ l) h = ap₂ ◌∷◌ (e a h.0) (lines-counted P size e l h.1)

  none-counted : ((a : A) → literals_in (line a) ≡ 0) → (l : List A) → Each Few (map line l)
  none-counted e [] = tt
  none-counted e (a ∷ l) = (omega (arith, e a), none-counted e l)

-- ---- all lines
module _ (name : ℕ → List ℕ) (st : Said) (w : Writes name st) where
  abbrev n : ℕ
  n = length st.names

  -- the atom lines and edition lines, and those behind the constraints
  abbrev atom_counts : List ℕ
  atom_counts = map literals_in (map Line.atom st.names)

  abbrev edition_counts : List ℕ
  edition_counts = map literals_in (map Line.edition st.editions)

  abbrev front : List ℕ
  front = atom_counts ++ edition_counts

  abbrev others : List Line
  others =
      map Line.seen (literals_for name st.plain st.negated)
      ++ (map (query_line name) st.queries ++ map (cost_line name) st.costs)

  clauses-counted : map literals_in (map (clause_line name) st.clauses) ≡ map clause_body st.clauses
  clauses-counted =
      lines-counted (clause_line name) (ClauseFormed n) clause_body
      (λ c f. body-counted name n c.plain c.negated w.named.few f.below)
      st.clauses w.formed.clauses.each

  constraints-counted : map literals_in (map (constraint_line name) st.constraints)
      ≡ map constraint_body st.constraints
  constraints-counted =
      lines-counted (constraint_line name) (ConstraintFormed n) constraint_body
      (λ c f. body-counted name n c.plain c.negated w.named.few f.below)
      st.constraints w.formed.constraints.each

  counts_are : map literals_in (lines_of name st) ≡ front ++ (said_bodies st ++ map literals_in others)
  counts_are =
      let behind = map literals_in others in
      map-append literals_in (map Line.atom st.names) _ ∙ ap (λ l. atom_counts ++ l) (
      map-append literals_in (map Line.edition st.editions) _ ∙ ap (λ l. edition_counts ++ l) (
      map-append literals_in (map (clause_line name) st.clauses) _
      ∙ ap₂ ◌++◌ clauses-counted (map-append literals_in (map (constraint_line name) st.constraints) others
      ∙ ap (λ l. l ++ behind) constraints-counted)
      ∙ sym (append_assoc (map clause_body st.clauses) (map constraint_body st.constraints) behind)))
      ∙ sym (append_assoc atom_counts edition_counts (said_bodies st ++ behind))

  front-few : Each (λ n. n ≤ 11) front
  front-few =
      each_append (λ n. n ≤ 11) atom_counts edition_counts
      (few-counted (map Line.atom st.names) (none-counted Line.atom (λ a. refl) st.names))
      (few-counted (map Line.edition st.editions) (none-counted Line.edition (λ e. refl) st.editions))

  lines-length : {A : Type 0} (line : A → Line) (l : List A) → length (map literals_in (map line l)) ≡ length l
  lines-length line l = length-map (map line l) literals_in ∙ length-map l line

  front_length : length front ≡ n + length st.editions
  front_length =
      length-append atom_counts edition_counts
      ∙ ap₂ ◌+◌ (lines-length Line.atom st.names) (lines-length Line.edition st.editions)

  others-few : Each (λ n. n ≤ 11) (map literals_in others)
  others-few =
      few-counted others
      (each_append Few (map Line.seen (literals_for name st.plain st.negated)) _
      (none-counted Line.seen (λ x. refl) (literals_for name st.plain st.negated))
      (each_append Few (map (query_line name) st.queries) (map (cost_line name) st.costs)
      (none-counted (query_line name) (λ f. refl) st.queries)
      (none-counted (cost_line name) (λ r. refl) st.costs)))

  pub counts-few : AllFew (said_bodies st) → Each (λ n. n ≤ 11) (map literals_in (lines_of name st))
  counts-few h =
      rw counts_are
      (each_append (λ n. n ≤ 11) front _ front-few
      (each_append (λ n. n ≤ 11) (said_bodies st) _ (all-few (said_bodies st) h) others-few))

  pub count-over : (k : ℕ) → FirstLong (said_bodies st) k
      → FirstOver (map literals_in (lines_of name st)) (n + length st.editions + k)
  count-over k h =
      let over = over-before (said_bodies st) (map literals_in others) k (first-over (said_bodies st) k h) in
      rw (counts_are, ← front_length) (over-behind front (said_bodies st ++ map literals_in others) k front-few over)
