-- What was read stays well formed with a line that passes its checks, and so is at the end of an accepted file.
-- Assumes nothing.
use mathlib.Core.Path.{◌≡◌, refl, ap, subst}
use mathlib.Core.Bool.{Bool, true, false, not}
use mathlib.Core.List.{List, [], ◌∷◌}
use Prim.Native.Nat.{ℕ, zero, suc, ◌+◌, ◌*◌, ◌≤◌, ◌<◌}
use native.Mathlib.Omega.{arith}
use lib.Dec.{eqb}
use lib.ListN.{length}
use borrow.Author.Tests.{eqb-true, leb-true}
use Rattle.words.proofs.Tests.{by_test}
use Rattle.words.proofs.Checks.{none-failed}
use Rattle.program.specs.Sound.{bare, shaped}
use Rattle.text.specs.Lines.{lines, is_comment}
use Rattle.text.specs.Tokens.{tokens}
use Rattle.text.specs.Words.{names_in}
use Rattle.text.proofs.Each.{Each}
use Rattle.formulas.specs.Sentence.{Sentence, sentence_names, depth_of}
use Rattle.formulas.specs.Parsing.{size_of}
use Rattle.text.proofs.TokenCounts.{tokens-le-bytes}
use Rattle.grammar.specs.Line.{Line, Literal, body_names, line_names, is_edition, is_line}
use Rattle.grammar.specs.Bringing.{brings}
use Rattle.grammar.specs.LineOf.{line_of}
use Rattle.grammar.proofs.LineLaws.{line-names, Bodied, ClauseShaped, Shaped, line-shaped}
use Rattle.names.specs.Names.{atom_of, with_names}
use Rattle.names.proofs.Adding.{each-found}
use Rattle.store.specs.Saying.{Said, nothing_said, plain_atoms, negated_atoms, encoded, clause_row, constraint_row}
use Rattle.store.specs.Saying.{renamed, said_by}
use Rattle.store.proofs.Encoded.{Known, encoded-length, encoded-depth, encoded-over}
use Rattle.store.proofs.Literals.{or-atoms-lt, atoms-lt, none_bare, body-not-bare}
use Rattle.checks.specs.Checks.{said_with, line_refusal, said_after}
use Rattle.checks.proofs.Passing.{RoomPasses, FormPasses, line-passes}
use Rattle.checks.proofs.After.{after_comment, after_line}
use Rattle.checks.proofs.Naming.{names-named}
use Rattle.reader.specs.Reading.{Outcome, settings_few, end_checks, read_file}
use Rattle.reader.specs.Claims.{said_through, all_pass}
use Rattle.reader.proofs.WellFormed.{rows_push, BitsBelow, ClauseFormed, ConstraintFormed, QueryFormed}
use Rattle.reader.proofs.WellFormed.{IsEdition, WellFormed, well_formed, nothing-formed, renamed-formed}
use Rattle.reader.proofs.FirstBad.{first_passes, accepted_through}

-- the edition of a line
edition-formed : (e : ℕ) → is_edition e ≡ true → IsEdition e
edition-formed e h =
    by_test (eqb e 1) (λ k. rw (eqb-true e 1 k)) (λ k. let t = rw k at h in rw (eqb-true e 2 t))

-- What a line's parts make, where their names are all among ns

module _ (ns : List (List ℕ)) (h : length ns ≤ 64) where
  literals-below : (l : List Literal) → Each (Known ns) (body_names l)
      → BitsBelow (length ns) (plain_atoms ns l) (negated_atoms ns l)
  literals-below l k =
      record { plain-lt = atoms-lt (atom_of ns) _ false l h k; negated-lt = atoms-lt (atom_of ns) _ true l h k }

  row-formed : (kind : ℕ) (w : List ℕ) (l : List Literal) → Known ns w → ClauseShaped kind l
      → Each (Known ns) (body_names l) → ClauseFormed (length ns) (clause_row ns kind w l)
  row-formed kind w l k b e = record { head-lt = k; below = literals-below l e; shape = go kind b }
    where
      bare-none : l ≡ [] → bare (plain_atoms ns l) (negated_atoms ns l) ≡ true
      bare-none d = rw d (none_bare (atom_of ns) (length ns))

      go : (i : ℕ) → ClauseShaped i l → shaped i (bare (plain_atoms ns l) (negated_atoms ns l)) ≡ true
      go zero d = bare-none d
      go (suc zero) d = bare-none d
      go (suc (suc zero)) d = ap not (body-not-bare (atom_of ns) _ l h d e)
      go (suc (suc (suc i))) d = absurd d

  constraint-formed : (k : ℕ) (l : List Literal) → (k < 2) × Bodied l → Each (Known ns) (body_names l)
      → ConstraintFormed (length ns) (constraint_row ns k l)
  constraint-formed k l b e =
      record { below = literals-below l e; some = body-not-bare (atom_of ns) _ l h b.1 e; kind-lt = b.0 }

  sentence-formed : (f : Sentence) → Each (Known ns) (sentence_names f) → 2 * size_of f ≤ 200 → depth_of f ≤ 16
      → QueryFormed (length ns) (encoded ns f)
  sentence-formed f k s d = record {
    over-atoms = encoded-over (atom_of ns) _ f k;
    not_deep = omega (arith, encoded-depth (atom_of ns) f);
    nodes-few = omega (arith, encoded-length (atom_of ns) f);
  }

  -- with one entry more
  module _ (st : Said) (r : WellFormed (renamed ns st)) (n : ℕ) (s : n ≤ 200) where
    said-formed : (y : Line) {q : Bool} → Each (Known ns) (line_names y) → Shaped n y → (brings y).depth ≤ 16
        → RoomPasses (length ns) (length st.clauses) (length st.constraints) (length st.queries) q (brings y)
        → length st.editions + (brings y).editions ≤ 1 → WellFormed (said_by (renamed ns st) y)
    unfolding said_by
    said-formed Line.skipped p b d m o = r
    said-formed Line.no_form p b d m o = r
    said-formed (Line.clause k w l) p b d m o =
        well_formed r.names
        (rows_push _ 256 _ _ r.clauses (omega (arith, m.clauses-few)) (row-formed k w l p.0 b p.1))
        r.constraints r.observed r.queries r.editions
    said-formed (Line.constraint k l) p b d m o =
        well_formed r.names r.clauses
        (rows_push _ 32 _ _ r.constraints (omega (arith, m.constraints-few)) (constraint-formed k l b p))
        r.observed r.queries r.editions
    said-formed (Line.seen x) p b d m o =
        let x = literals-below (x ∷ []) p in
        well_formed r.names r.clauses r.constraints
        (record {
          plain-lt = or-atoms-lt _ _ _ h r.observed.plain-lt x.plain-lt;
          negated-lt = or-atoms-lt _ _ _ h r.observed.negated-lt x.negated-lt;
        })
        r.queries r.editions
    said-formed (Line.query f) p b d m o =
        well_formed r.names r.clauses r.constraints r.observed
        (rows_push _ 16 _ _ r.queries (omega (arith, m.queries-few)) (sentence-formed f p (omega arith) d))
        r.editions
    said-formed (Line.cost w x y) p b d m o =
        well_formed r.names r.clauses r.constraints r.observed r.queries r.editions
    said-formed (Line.atom w) p b d m o = r
    said-formed (Line.edition e) p b d m o =
        well_formed r.names r.clauses r.constraints r.observed r.queries
        (rows_push _ 1 _ _ r.editions (omega arith) (edition-formed e b))

-- A line

-- the names of a line are known with it
pub line_known : (st : Said) (l : List ℕ) → is_line (line_of (tokens l)) ≡ true
    → Each (Known (with_names st.names (names_in (tokens l)))) (line_names (line_of (tokens l)))
line_known st l h =
    let ws : List (List ℕ) = names_in (tokens l) in
    subst (Each (Known (with_names st.names ws))) (line-names (tokens l) h) (each-found st.names ws)

form-formed : (st : Said) (l : List ℕ) → WellFormed st → length l ≤ 200 → FormPasses st (tokens l)
    → WellFormed (said_with st (tokens l))
form-formed st l r h p =
    let ws : List (List ℕ) = names_in (tokens l) in
    let ns : List (List ℕ) = with_names st.names ws in
    let named = renamed-formed st ws r (names-named l p.is-line p.text.names-short) p.room.names-few in
    said-formed ns p.room.names-few st named (length (tokens l)) (omega (arith, tokens-le-bytes l))
    (line_of (tokens l)) (line_known st l p.is-line) (line-shaped (tokens l)) p.text.not_deep p.room
    p.editions-few

line-formed : (st : Said) (l : List ℕ) → WellFormed st → line_refusal st l ≡ 0 → WellFormed (said_after st l)
line-formed st l r e =
    by_test (is_comment l) (λ c. rw (after_comment st l c) r)
    (λ c. let p = line-passes st l e c in rw (after_line st l c) (form-formed st l r p.0 p.1))

-- A file

pub record Ended (st : Said) : Type 0 where
  pub formed : WellFormed st
  pub query-some : 1 ≤ length st.queries
  pub settings-few : settings_few st ≡ true

through_formed : (ls : List (List ℕ)) (st : Said) → WellFormed st → all_pass ls st ≡ true
    → WellFormed (said_through ls st)
unfolding said_through
through_formed [] st r h = r
through_formed (l ∷ ls) st r h =
    let p = first_passes l ls st h in
    through_formed ls (said_after st l) (line-formed st l r p.0) p.1

pub accepted-formed : (f : List ℕ) (st : Said) → read_file f ≡ Outcome.case st → Ended st
accepted-formed f st e =
    let a = accepted_through f st e in
    let p = none-failed (end_checks st) refl a.1 in
    let r = rw a.2 at (through_formed (lines f) nothing_said nothing-formed a.0) in
    record {
      formed = r;
      query-some = leb-true 1 _ p.0;
      settings-few = p.1.0;
    }
