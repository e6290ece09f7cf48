-- A clause of a table, as it is handed out.
--
--   ClauseAt cl k c   c has the head, the kind and the literals of clause k
use Rattle.std.specs.Prelude.{◌≡◌, List, ℕ}
use Rattle.program.specs.declared.clause.Clause.{Clause}
use Rattle.program.specs.Case.{head_at, kind_at, plain_at, negated_at}

pub record ClauseAt (cl : List ℕ) (k : ℕ) (c : Clause) : Type 0 where
  pub head-is : c.head ≡ head_at cl k
  pub kind-is : c.kind ≡ kind_at cl k
  pub plain-is : c.plain ≡ plain_at cl k
  pub negated-is : c.negated ≡ negated_at cl k
