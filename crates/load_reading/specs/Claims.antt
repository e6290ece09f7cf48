-- What is claimed of a load: reading it accepts it or refuses it with 12, and what it then holds. Proved in
-- proofs/Theorems.antt.
-- From: document 02, [11] ("Reading such a file into full-size tables accepts it or refuses it with 12, nothing else").
--
--   LoadReads      so of every load and any tables that fit; 12 is no refusal of a line, and so its line is 0
--   Holds n c d    the record d has n atoms, c clauses and one formula, and nothing else, in edition 1
--   LoadHolds      so of the record of every load that is accepted
use Rattle.std.specs.Prelude.{◌≡◌, true, ◌⊎◌, ℕ, Result}
use Rattle.program.specs.declared.case.Case.{Case}
use Rattle.store.specs.Lent.{Lent}
use Rattle.reader.specs.declared.read.Refused.{Refused}
use Rattle.reader.specs.Answers.{refusal_in, line_in, case_in}
use Rattle.reader.specs.Operation.{tables_fit, ReadAs}
use Rattle.loading.specs.Load.{load_text}
use Rattle.loading.specs.Operation.{is_load}

-- reading the load with the seed s, n atoms and c clauses into the tables v, which leaves u and answers r
abbrev pub LoadReads : Type 0
LoadReads = (s n c : ℕ) (v u : Lent) (r : Result Case Refused) → is_load n c ≡ true → tables_fit v ≡ true
    → ReadAs (load_text s n c) v u r → (refusal_in r ≡ 0) ⊎ ((refusal_in r ≡ 12) × (line_in r ≡ 0))

-- no atom is observed
pub record Holds (n c : ℕ) (d : Case) : Type 0 where
  pub atoms_are : d.atoms ≡ n
  pub clause-count-is : d.clauses ≡ c
  pub constraint-count-is : d.constraints ≡ 0
  pub formula-count-is : d.formulas ≡ 1
  pub plain-is : d.plain ≡ 0
  pub negated-is : d.negated ≡ 0
  pub edition-is : d.edition ≡ 1

abbrev pub LoadHolds : Type 0
LoadHolds = (s n c : ℕ) (v u : Lent) (r : Result Case Refused) → is_load n c ≡ true → tables_fit v ≡ true
    → ReadAs (load_text s n c) v u r → refusal_in r ≡ 0 → Holds n c (case_in r)
