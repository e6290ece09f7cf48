-- What was read of an accepted file is a sound case, with tables filled over any tables of full size. Assumes nothing.
use mathlib.Core.Path.{◌≡◌, refl, sym, ◌∙◌}
use mathlib.Core.Bool.{true}
use mathlib.Core.List.{List}
use Prim.Native.Nat.{ℕ, ◌+◌, ◌*◌, ◌≤◌, ◌<◌}
use lib.ListN.{length, get_or}
use Rattle.logic.specs.Formula.{Formula}
use Rattle.logic.proofs.Spelled.{one-formula-complete}
use Rattle.program.specs.Case.{clause_size, constraint_size, formula_size, tables_full}
use Rattle.program.specs.Sound.{limits_hold, sound_clause, sound_clauses, sound_constraint, sound_constraints}
use Rattle.program.specs.Sound.{few_settings}
use Rattle.program.specs.Sound.{sound_formulas, sound}
use Rattle.program.proofs.Soundness.{sound-rest}
use Rattle.program.proofs.MakingSound.{tables-full, limits-hold, within-below, clause-passes, clauses-pass}
use Rattle.program.proofs.MakingSound.{constraint-passes, constraints-pass, formula-passes, formulas-pass}
use Rattle.table.specs.Filled.{filled, padded}
use Rattle.table.proofs.Filled.{filled-length}
use Rattle.text.proofs.Each.{each_at}
use Rattle.store.specs.Lent.{Lent}
use Rattle.store.specs.Held.{Long}
use Rattle.store.specs.Saying.{ClauseRow, ConstraintRow, Said, edition_of}
use Rattle.store.specs.Tables.{clause_words, case_said, constraint_words, formula_parts, node_counts}
use Rattle.store.proofs.Saying.{last-each}
use Rattle.store.proofs.Formulas.{over-some}
use Rattle.store.proofs.FilledRows.{no_row, no_constraint, clause-is, constraint-is, count-is, formula-is}
use Rattle.reader.proofs.WellFormed.{Rows, ClauseFormed, ConstraintFormed, QueryFormed, IsEdition, query-spells}
use Rattle.reader.proofs.WellFormedLines.{Ended}
use Rattle.reader.proofs.FilledTables.{few-settings-filled}

module _ (n : ℕ) where
  -- Clauses and constraints

  clause-sound : (c : ClauseRow) → n ≤ 64 → ClauseFormed n c
      → sound_clause n (c.head + 64 * c.kind) c.plain c.negated ≡ true
  clause-sound c h r =
      let w = within-below n _ _ r.below.plain-lt r.below.negated-lt in
      clause-passes n c.head c.kind c.plain c.negated h r.head-lt w r.shape

  constraint-sound : (c : ConstraintRow) → ConstraintFormed n c
      → sound_constraint n c.plain c.negated c.kind ≡ true
  constraint-sound c r =
      constraint-passes n _ _ _ (within-below n _ _ r.below.plain-lt r.below.negated-lt) r.some r.kind-lt

  clauses-sound : (cs : List ClauseRow) (old : List ℕ) → n ≤ 64 → clause_size ≤ length old
      → Rows (ClauseFormed n) 256 cs → sound_clauses n (filled clause_size (clause_words cs) old) (length cs) ≡ true
  clauses-sound cs old h t r =
      clauses-pass n (length cs) _
      (λ k l.
      let w = clause-is cs old t r.few k l in
      rw (w.first-is, w.plain-is, w.negated-is) (clause-sound _ h (each_at _ cs k no_row r.each l)))

  constraints-sound : (cs : List ConstraintRow) (old : List ℕ) → constraint_size ≤ length old
      → Rows (ConstraintFormed n) 32 cs
      → sound_constraints n (filled constraint_size (constraint_words cs) old) (length cs) ≡ true
  constraints-sound cs old t r =
      constraints-pass n (length cs) _
      (λ k l.
      let w = constraint-is cs old t r.few k l in
      rw (w.plain-is, w.negated-is, w.kind-is) (constraint-sound _ (each_at _ cs k no_constraint r.each l)))

-- The case

module _ (st : Said) (t : Lent) (long : Long t) (d : Ended st) where
  abbrev n : ℕ
  n = length st.names

  abbrev cl : List ℕ
  cl = filled clause_size (clause_words st.clauses) t.clauses

  abbrev co : List ℕ
  co = filled constraint_size (constraint_words st.constraints) t.constraints

  abbrev fo : List ℕ
  fo = filled formula_size (formula_parts st.queries) t.formula

  few : n ≤ 64
  few = d.formed.names.rows.few

  full : tables_full cl co fo ≡ true
  full = tables-full cl co fo
      (rw filled-length long.clauses-long) (rw filled-length long.constraints-long)
      (rw filled-length long.formula-long)

  -- query q
  query : (q : ℕ) → q < length st.queries → QueryFormed n (get_or st.queries q Formula.truth)
  query q l = each_at _ st.queries q Formula.truth d.formed.queries.each l

  limits : limits_hold (case_said st) ≡ true
  limits =
      limits-hold (case_said st) (over-some n _ (query 0 d.query-some).over-atoms) few d.formed.clauses.few
      d.formed.constraints.few d.query-some d.formed.queries.few
      (last-each IsEdition 1 st.editions refl d.formed.editions.each)

  settings : few_settings (edition_of st.editions) n cl (length st.clauses) ≡ true
  settings =
      few-settings-filled st.clauses t.clauses long.clauses-long d.formed.clauses.few
      (edition_of st.editions) n
      ∙ d.settings-few

  formulas-sound : sound_formulas n (padded 16 (node_counts st.queries)) fo (length st.queries) ≡ true
  formulas-sound =
      formulas-pass n (length st.queries) _ fo
      (λ q l.
      let r = query q l in
      let i = d.formed.queries.few in
      formula-passes n _ fo q (rw (count-is st.queries i q l) r.nodes-few)
      (rw (formula-is st.queries i q l t.formula long.formula-long r.nodes-few)
      (one-formula-complete n _ _ few (query-spells r))))

  pub ended-sound : sound (case_said st) cl co fo ≡ true
  ended-sound =
      sym (sound-rest (case_said st) cl co fo full limits
      (clauses-sound n st.clauses t.clauses few long.clauses-long d.formed.clauses)
      (constraints-sound n st.constraints t.constraints long.constraints-long d.formed.constraints)
      (within-below n _ _ d.formed.observed.plain-lt d.formed.observed.negated-lt) settings)
      ∙ formulas-sound
