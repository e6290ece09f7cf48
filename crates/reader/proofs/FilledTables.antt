-- The clauses and the constraints that are taken back from filled tables, and their causes.
--
--   row_clause r        the clause that a row is
--   row_constraint r    the constraint that a row is
-- Assumes nothing.
use mathlib.Core.Path.{◌≡◌, refl, sym, ◌∙◌}
use mathlib.Core.List.{List, [], ◌∷◌, ◌++◌, map}
use Prim.Native.Nat.{ℕ, suc, ◌+◌, ◌*◌, ◌/◌, ◌%◌, ◌≤◌, ◌<◌}
use native.Mathlib.Omega.{arith}
use lib.ListN.{length, get_or, length-map, get_or-map}
use Rattle.words.proofs.Lists.{list_of_is, list_of-grown}
use Rattle.logic.specs.Formula.{body}
use Rattle.program.specs.Case.{clause_size, constraint_size}
use Rattle.program.specs.Program.{Clause, clause, by_kind, clause_at, clauses_of}
use Rattle.program.specs.Sound.{few_settings}
use Rattle.program.proofs.MakingSound.{few-settings_ext}
use Rattle.table.specs.Filled.{filled}
use Rattle.table.proofs.Filled.{filled_at}
use Rattle.text.proofs.Each.{Each, each_at}
use Rattle.store.specs.Saying.{ClauseRow, ConstraintRow}
use Rattle.store.specs.Tables.{clause_words, constraint_words}
use Rattle.store.proofs.FilledRows.{no_row, no_constraint, clause-is, constraint-is}
use Rattle.reader.specs.Contents.{Constraint, constraint, constraint_at, constraints_of}

abbrev pub row_clause : ClauseRow → Clause
row_clause r = clause r.head (by_kind r.kind (body r.plain r.negated))

abbrev pub row_constraint : ConstraintRow → Constraint
row_constraint r = constraint r.kind (body r.plain r.negated)

-- a list that grows by f k is the list of the entries of l, where f k is that of the k-th
grown-all : {A B : Type 0} (l : List A) (d : A) (h : A → B) (g : ℕ → List B) (f : ℕ → B) → g 0 ≡ []
    → ((k : ℕ) → g (suc k) ≡ g k ++ (f k ∷ [])) → ((k : ℕ) → k < length l → f k ≡ h (get_or l k d))
    → g (length l) ≡ map h l
grown-all l d h g f none more same =
    let e = length-map l h in
    list_of-grown g f none more (length l)
    ∙ (rw e at (list_of_is (map h l) (h d) f (λ k m. same k (omega arith) ∙ sym (get_or-map h l k d))))

-- Clauses

module _ (cs : List ClauseRow) (old : List ℕ) (long : clause_size ≤ length old) (few : length cs ≤ 256) where
  abbrev cl : List ℕ
  cl = filled clause_size (clause_words cs) old

  -- the settings of the table are those of the words that it is filled with
  pub few-settings-filled : (e n : ℕ)
      → few_settings e n cl (length cs) ≡ few_settings e n (clause_words cs) (length cs)
  few-settings-filled e n =
      few-settings_ext cl (clause_words cs) (length cs)
      (λ k l. filled_at clause_size (clause_words cs) old (3 * k) (omega arith) long) e n

  pub clauses-filled : Each (λ (r : ClauseRow). r.head < 64) cs → clauses_of cl (length cs) ≡ map row_clause cs
  unfolding clauses_of clause_at
  clauses-filled small = grown-all cs no_row row_clause (clauses_of cl) (clause_at cl) refl (λ k. refl) (λ k l.
      let r = get_or cs k no_row in
      let s = each_at (λ (x : ClauseRow). x.head < 64) cs k no_row small l in
      let w = clause-is cs old long few k l in
      let e : (r.head + 64 * r.kind) % 64 ≡ r.head = omega arith in
      let f : (r.head + 64 * r.kind) / 64 ≡ r.kind = omega arith in
      rw (w.first-is, w.plain-is, w.negated-is, e, f))

-- Constraints

module _ (cs : List ConstraintRow) (old : List ℕ) (long : constraint_size ≤ length old) (few : length cs ≤ 32) where
  abbrev co : List ℕ
  co = filled constraint_size (constraint_words cs) old

  pub constraints-filled : constraints_of co (length cs) ≡ map row_constraint cs
  unfolding constraints_of
  constraints-filled =
      grown-all cs no_constraint row_constraint (constraints_of co) (constraint_at co) refl (λ k. refl)
      (λ k l. let w = constraint-is cs old long few k l in rw (w.plain-is, w.negated-is, w.kind-is))
