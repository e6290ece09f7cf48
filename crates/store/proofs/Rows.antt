-- The rows of clauses, constraints and queries in the words of their tables, what storing a clause or a reading leaves,
-- and the atoms of two words. Assumes nothing.
use mathlib.Core.Path.{◌≡◌, refl, ap₂, ◌∙◌}
use mathlib.Core.List.{List, [], ◌∷◌}
use Prim.Native.Nat.{ℕ, ◌+◌, ◌*◌, ◌^◌, ◌<◌}
use lib.Bits.{bit_or, or_lt}
use lib.Seq.{sets}
use Rattle.words.proofs.Bits.{has-or}
use Rattle.words.proofs.Words.{is_word}
use Rattle.logic.specs.Nodes.{nodes}
use Rattle.program.specs.declared.case.Case.{Case}
use Rattle.program.specs.Case.{part_size}
use Rattle.table.specs.Filled.{padded}
use Rattle.table.proofs.Filled.{padded-length}
use Rattle.table.proofs.Rows.{RowTable}
use Rattle.names.specs.Row.{row_of}
use Rattle.store.specs.declared.masks.Masks.{Masks}
use Rattle.store.specs.Saying.{ClauseRow, ConstraintRow, or_atoms}
use Rattle.store.specs.Tables.{clause_words, constraint_words, formula_parts}
use Rattle.store.specs.Stored.{with_rows, with_observed_atoms, ClauseStored, ObservedStored}

abbrev pub clause_row_words : ClauseRow → List ℕ
clause_row_words c = (c.head + 64 * c.kind) ∷ (c.plain ∷ (c.negated ∷ []))

pub clause-rows : RowTable 3 clause_row_words clause_words
unfolding clause_words
clause-rows = record { none_is = refl; more_are = λ c cs. refl; width = λ c. refl }

abbrev pub constraint_row_words : ConstraintRow → List ℕ
constraint_row_words c = c.plain ∷ (c.negated ∷ (c.kind ∷ []))

pub constraint-rows : RowTable 3 constraint_row_words constraint_words
unfolding constraint_words
constraint-rows = record { none_is = refl; more_are = λ c cs. refl; width = λ c. refl }

pub formula-rows : RowTable part_size (λ f. padded part_size (nodes f)) formula_parts
unfolding formula_parts
formula-rows = record { none_is = refl; more_are = λ f fs. refl; width = λ f. padded-length part_size (nodes f) }

-- a clause stored, with the head in row f
pub clause_put : {w : List ℕ} {kind : ℕ} {m : Masks} {c : Case} {na cl u : List ℕ} {f : ℕ} → f ≡ row_of na c.atoms w
    → u ≡ sets cl (3 * c.clauses) ((f + 64 * kind) ∷ (m.plain ∷ (m.negated ∷ [])))
    → ClauseStored w kind m c na cl (with_rows c (c.clauses + 1) c.constraints) u
clause_put e s = record { counted = refl; table_is = s ∙ rw e }

-- atoms

or-atoms-is : (v w : ℕ) → v < 2 ^ 64 → w < 2 ^ 64 → bit_or v w ≡ or_atoms v w
or-atoms-is v w h k = is_word 64 (bit_or v w) _ (or_lt 64 v w h k) (λ i _. has-or v w i)

pub observed_stored : {m : Masks} {c : Case} → c.plain < 2 ^ 64 → c.negated < 2 ^ 64 → m.plain < 2 ^ 64
    → m.negated < 2 ^ 64
    → ObservedStored m c (with_observed_atoms c (bit_or c.plain m.plain) (bit_or c.negated m.negated))
observed_stored {m} {c} h k i j =
    ap₂ (with_observed_atoms c) (or-atoms-is c.plain m.plain h i) (or-atoms-is c.negated m.negated k j)
