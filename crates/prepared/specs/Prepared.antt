-- What settling in lanes prepares once a case.
--
--   Prepared cl n p   p has the opening of the first n clauses, the dependents, and the chains of rules
use Rattle.std.specs.Prelude.{◌≡◌, List, ℕ, ◌*◌, ◌≤◌, length}
use Rattle.prepared.specs.declared.tables.Preparation.{Preparation}
use Rattle.prepared.specs.Opening.{opening_of}
use Rattle.prepared.specs.Dependents.{Dependents}
use Rattle.prepared.specs.Chains.{Lasts, Linked}

pub record Prepared (cl : List ℕ) (n : ℕ) (p : Preparation) : Type 0 where
  pub clauses-few : n ≤ 256
  pub clauses-held : 3 * n ≤ length cl
  pub opening-is : p.opening ≡ opening_of cl n
  pub dependents_are : Dependents cl n p.dependents
  pub lasts_are : Lasts cl n p.last
  pub linked : Linked cl n p.prev
