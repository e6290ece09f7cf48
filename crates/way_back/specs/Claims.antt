-- What is claimed of a written case: reading it gives the case back, or is refused with 20. Proved in
-- proofs/Theorems.antt.
-- From: document 02, [8] ("Unless refused, writing a sound case gives text whose reading gives the same record and
-- tables, both in their used entries"), [9] ("the text written for a longer body is refused when read, and the way back
-- of [8] is promised for bodies up to 11"), [10] ("the case record holds the edition").
--
--   SameUsed c t d u     the record d and the tables u are c and t in the used entries
--   WayBack              so of every case that writing does not refuse and whose bodies hold at most 11 literals, and
--                        what reading its text gives
--   LongBodyRefused      with a longer body, reading the text is refused with 20
--   AcceptedBack         a case that was read has no longer body, and so its way back
use Rattle.std.specs.Prelude.{◌≡◌, true, List, ℕ, suc, ◌+◌, ◌*◌, ◌<◌, length, get_or, take, Result}
use Rattle.program.specs.declared.case.Case.{Case}
use Rattle.program.specs.Case.{nodes_of}
use Rattle.store.specs.Lent.{Lent}
use Rattle.reader.specs.declared.read.Refused.{Refused}
use Rattle.reader.specs.Answers.{refusal_in, line_in, case_in}
use Rattle.reader.specs.Operation.{tables_fit, ReadAs}
use Rattle.writing.specs.Used.{editions_in}
use Rattle.writing.specs.Operation.{case_text, write_refusal}
use Rattle.way_back.specs.Bodies.{body_sizes, AllFew, FirstLong}

-- node counts and formula parts are used as far as there are formulas, names and prices as far as there are atoms
pub record SameUsed (c : Case) (t : Lent) (d : Case) (u : Lent) : Type 0 where
  pub atoms_are : d.atoms ≡ c.atoms
  pub clause-count-is : d.clauses ≡ c.clauses
  pub constraint-count-is : d.constraints ≡ c.constraints
  pub formula-count-is : d.formulas ≡ c.formulas
  pub plain-is : d.plain ≡ c.plain
  pub negated-is : d.negated ≡ c.negated
  pub edition-is : d.edition ≡ c.edition
  pub node-counts_are : (q : ℕ) → q < c.formulas → get_or d.nodes q 0 ≡ get_or c.nodes q 0
  pub clauses_are : take (3 * c.clauses) u.clauses ≡ take (3 * c.clauses) t.clauses
  pub constraints_are : take (3 * c.constraints) u.constraints ≡ take (3 * c.constraints) t.constraints
  pub formulas_are : (q : ℕ) → q < c.formulas
      → nodes_of d.nodes u.formula q ≡ nodes_of c.nodes t.formula q
  pub names_are : take (16 * c.atoms) u.names ≡ take (16 * c.atoms) t.names
  pub prices_are : take c.atoms u.prices ≡ take c.atoms t.prices

-- where writing the case c with the tables t to an output of n bytes is not refused, and each body holds at most 11
-- literals, reading its text into any tables v that fit is not refused either, and gives c and t back
abbrev pub WayBack : Type 0
WayBack = (c : Case) (t v u : Lent) (n : ℕ) (r : Result Case Refused) → write_refusal c t n ≡ 0
    → tables_fit v ≡ true → AllFew (body_sizes c t) → ReadAs (case_text c t) v u r
    → (refusal_in r ≡ 0) × SameUsed c t (case_in r) u

-- where body k is the first that holds more, reading is refused with 20 at its line, which stands behind those of the
-- atoms, that of edition 2 and those of the bodies before it
abbrev pub LongBodyRefused : Type 0
LongBodyRefused = (c : Case) (t v u : Lent) (n k : ℕ) (r : Result Case Refused) → write_refusal c t n ≡ 0
    → tables_fit v ≡ true → FirstLong (body_sizes c t) k → ReadAs (case_text c t) v u r
    → (refusal_in r ≡ 20) × (line_in r ≡ suc (c.atoms + length (editions_in c.edition) + k))

-- what reading a file f gives, where it accepts f, has its way back with no condition on bodies
abbrev pub AcceptedBack : Type 0
AcceptedBack = (f : List ℕ) (t u v w : Lent) (n : ℕ) (r a : Result Case Refused) → ReadAs f t u r → refusal_in r ≡ 0
    → write_refusal (case_in r) u n ≡ 0 → tables_fit v ≡ true → ReadAs (case_text (case_in r) u) v w a
    → (refusal_in a ≡ 0) × SameUsed (case_in r) u (case_in a) w
