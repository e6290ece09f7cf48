-- Reading the text of a case that writing does not refuse gives what the case says, or is refused with 20 at the line
-- of the first body with more than 11 literals. Assumes nothing.
use mathlib.Core.Path.{◌≡◌, ap, subst, ◌∙◌}
use mathlib.Core.Bool.{true}
use mathlib.Core.List.{List, [], ◌∷◌, map}
use Prim.Native.Nat.{ℕ, suc, ◌+◌, ◌*◌, ◌≤◌}
use native.Mathlib.Omega.{arith}
use lib.ListN.{length, take}
use lib.Seq.{get_or-take}
use Rattle.words.proofs.Lists.{list_of-length}
use Rattle.program.specs.declared.case.Case.{Case}
use Rattle.program.proofs.MakingSound.{few-settings_ext}
use Rattle.program.proofs.Soundness.{sound-atoms, sound-clauses, sound-formulas, sound-edition, sound-few}
use Rattle.text.proofs.Each.{Each}
use Rattle.grammar.specs.Line.{Line}
use Rattle.names.specs.Row.{name_in}
use Rattle.store.specs.Lent.{Lent}
use Rattle.store.specs.Saying.{Said, nothing_said}
use Rattle.store.specs.Tables.{clause_words}
use Rattle.store.proofs.Rows.{clause-rows}
use Rattle.reader.specs.Reading.{Outcome, settings_few, read_file}
use Rattle.reader.proofs.EarlyRefusals.{fit_long}
use Rattle.writing.specs.Lines.{lines_of, line_text}
use Rattle.writing.specs.Used.{clause_in, formula_in, editions_in, said_of}
use Rattle.spelling.proofs.Pages.{short-lines}
use Rattle.writing.proofs.CaseRoom.{writable-sound}
use Rattle.writing.specs.Operation.{case_lines, case_text, write_refusal}
use Rattle.writing.proofs.Costs.{costs-formed, costs-fresh}
use Rattle.writing.proofs.Editions.{edition-back}
use Rattle.way_back.proofs.Writable.{name-is, name-atom, prices-few, said-formed}
use Rattle.way_back.proofs.UsedRows.{rows_taken, clause-words}
use Rattle.writing.proofs.Unrefused.{Unrefused, unrefused}
use Rattle.way_back.proofs.FittingLines.{Reads, lines-read, lines-refused, file-lines, ending-few}
use Rattle.way_back.proofs.KnownNames.{NamedBy}
use Rattle.way_back.proofs.WrittenLines.{Short, Writes, written_read}
use Rattle.way_back.specs.Bodies.{body_sizes, AllFew, FirstLong}
use Rattle.way_back.proofs.SaidBodies.{said-bodies}
use Rattle.way_back.proofs.LiteralCounts.{counts-few, count-over}

-- lines whose texts are short are short
short-each : (xs : List Line) → Each (λ (l : List ℕ). length l ≤ 200) (map line_text xs) → Each Short xs
short-each [] h = tt
short-each (x ∷ xs) h = (h.0, short-each xs h.1)

module _ (c : Case) (t : Lent) (u : Unrefused c t) where
  abbrev name : ℕ → List ℕ
  name = name_in t.names

  abbrev st : Said
  st = said_of c t

  atoms_are : length st.names ≡ c.atoms
  atoms_are = list_of-length c.atoms name

  named : NamedBy st.names name
  named =
      let e = atoms_are in
      let m = (sound-atoms c _ _ _ (writable-sound c t u.can_write)).1 in
      record {
        few = omega arith;
        finds = λ a l. name-atom c t u.can_write a (omega arith);
        are_names = λ a l. name-is c t u.can_write a (omega arith);
      }

  writes : Writes name st
  writes = record {
    formed = said-formed c t u.can_write;
    named = named;
    costs-formed = rw atoms_are (costs-formed t.prices c.atoms (prices-few c t u.can_write));
    costs-fresh = costs-fresh t.prices c.atoms;
  }

  reads : Reads nothing_said (lines_of name st) st
  reads = written_read name st writes (short-each (lines_of name st) (short-lines (case_lines c t) u.lines-short))

  -- ---- the end
  query-some : 1 ≤ length st.queries
  query-some =
      let e = list_of-length c.formulas (formula_in c t.formula) in
      omega (arith, (sound-formulas c _ _ _ (writable-sound c t u.can_write)).0)

  words_are : clause_words st.clauses ≡ take (3 * c.clauses) t.clauses
  words_are =
      let few = sound-clauses c _ _ _ (writable-sound c t u.can_write) in
      let full = (fit_long t u.tables-fit).clauses-long in
      rows_taken clause-rows (clause_in t.clauses) t.clauses c.clauses
      (λ k l. clause-words t.clauses k (omega arith))

  settings-few : settings_few st ≡ true
  settings-few =
      let s = writable-sound c t u.can_write in
      rw (
        edition-back c.edition (sound-edition c _ _ _ s),
        atoms_are,
        words_are,
        list_of-length c.clauses (clause_in t.clauses),
      )
      (few-settings_ext (take (3 * c.clauses) t.clauses) t.clauses c.clauses
      (λ k l. get_or-take (3 * c.clauses) t.clauses (3 * k) 0 (omega arith)) c.edition c.atoms
      ∙ sound-few c _ _ _ s)

  file-read : AllFew (body_sizes c t) → read_file (case_text c t) ≡ Outcome.case st
  file-read few =
      file-lines (lines_of name st) st reads ∙ lines-read (lines_of name st) nothing_said st 1 reads
      (counts-few name st writes (subst AllFew (said-bodies c t) few))
      ∙ ending-few st query-some ∙ rw settings-few

  -- the lines in front of the bodies
  abbrev front : ℕ
  front = c.atoms + length (editions_in c.edition)

  file-refused : (k : ℕ) → FirstLong (body_sizes c t) k
      → read_file (case_text c t) ≡ Outcome.refused 20 (suc (front + k))
  file-refused k f =
      let m = length st.names + length st.editions in
      let e : 1 + (m + k) ≡ suc (front + k) = omega (arith, atoms_are) in
      file-lines (lines_of name st) st reads
      ∙ lines-refused (lines_of name st) (m + k) nothing_said st 1 reads
      (count-over name st writes k (subst (λ l. FirstLong l k) (said-bodies c t) f))
      ∙ ap (Outcome.refused 20) e

module _ (c : Case) (t : Lent) (n : ℕ) (h : write_refusal c t n ≡ 0) where
  pub text-read : AllFew (body_sizes c t) → read_file (case_text c t) ≡ Outcome.case (said_of c t)
  text-read = file-read c t (unrefused c t n h)

  pub text-refused : (k : ℕ) → FirstLong (body_sizes c t) k
      → read_file (case_text c t) ≡ Outcome.refused 20 (suc (c.atoms + length (editions_in c.edition) + k))
  text-refused = file-refused c t (unrefused c t n h)
