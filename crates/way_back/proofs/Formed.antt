-- The clauses, constraints and formulas of sound tables: each is well formed, as what is read is. Assumes nothing.
use mathlib.Core.Path.{◌≡◌}
use mathlib.Core.Bool.{true}
use mathlib.Core.List.{List}
use Prim.Native.Nat.{ℕ, ◌*◌}
use lib.ListN.{get_or}
use Rattle.logic.specs.Nodes.{formula_of}
use Rattle.logic.proofs.Spelled.{one-formula-accepted}
use Rattle.program.specs.Case.{plain_at, negated_at, forbidden, forbidden_not, constraint_kind, nodes_of}
use Rattle.program.specs.Sound.{within, sound_formula}
use Rattle.program.proofs.Soundness.{formula-one, clause_test, constraint_test}
use Rattle.program.proofs.SoundEntries.{within-below, clause-sound, constraint-sound}
use Rattle.reader.proofs.WellFormed.{BitsBelow, ClauseFormed, ConstraintFormed, QueryFormed}
use Rattle.writing.specs.Used.{clause_in, constraint_in}
use Rattle.writing.proofs.CaseRoom.{nodes-few}

-- Words

pub within-formed : (n p q : ℕ) → within n p q ≡ true → BitsBelow n p q
within-formed n p q h = let b = within-below n p q h in record { plain-lt = b.0; negated-lt = b.1 }

-- Clauses

pub clause-formed : (n : ℕ) (cl : List ℕ) (k : ℕ) → clause_test n cl k ≡ true → ClauseFormed n (clause_in cl k)
clause-formed n cl k h =
    let s = clause-sound n (get_or cl (3 * k) 0) (plain_at cl k) (negated_at cl k) h in
    record {
      head-lt = s.head-lt;
      below = within-formed n (plain_at cl k) (negated_at cl k) s.inside;
      shape = s.shape;
    }

-- Constraints

pub constraint-formed : (n : ℕ) (co : List ℕ) (k : ℕ) → constraint_test n co k ≡ true
    → ConstraintFormed n (constraint_in co k)
constraint-formed n co k h =
    let s = constraint-sound n (forbidden co k) (forbidden_not co k) (constraint_kind co k) h in
    record {
      below = within-formed n (forbidden co k) (forbidden_not co k) s.inside;
      some = s.some;
      kind-lt = s.kind-lt;
    }

-- Formulas

module _ (n : ℕ) (ns fo : List ℕ) (q : ℕ) (h : sound_formula n ns fo q ≡ true) where
  pub query-formed : QueryFormed n (formula_of (nodes_of ns fo q))
  query-formed =
      let s = one-formula-accepted n (nodes_of ns fo q) (formula-one n ns fo q h) in
      record { over-atoms = s.over-atoms; not_deep = s.not_deep; nodes-few = nodes-few n ns fo q h }
