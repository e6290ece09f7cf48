-- How many literals the bodies of a case hold.
-- From: document 02, [9] ("the way back of [8] is promised for bodies up to 11"); document 01, "Case tables and sound
-- cases".
--
--   body_size p q    the literals of a body with the words p of its plain and q of its negated atoms
--   body_sizes c t   those of the clauses of the case c with the tables t and then of its constraints, in table order;
--                    a fact and an assumption have none
--   AllFew l         each of the sizes l is at most 11
--   FirstLong l k    of the sizes l, that at place k, counted from 0, is the first that is more
use Rattle.std.specs.Prelude.{List, ◌++◌, ℕ, ◌+◌, ◌≤◌, ◌<◌, length, get_or}
use Rattle.std.specs.Int.Count.{ones}
use Rattle.words.specs.Lists.{list_of}
use Rattle.program.specs.declared.case.Case.{Case}
use Rattle.program.specs.Case.{plain_at, negated_at, forbidden, forbidden_not}
use Rattle.store.specs.Lent.{Lent}

abbrev pub body_size : ℕ → ℕ → ℕ
body_size p q = ones p + ones q

abbrev pub body_sizes : Case → Lent → List ℕ
body_sizes c t =
    list_of c.clauses (λ k. body_size (plain_at t.clauses k) (negated_at t.clauses k))
    ++ list_of c.constraints (λ k. body_size (forbidden t.constraints k) (forbidden_not t.constraints k))

abbrev pub AllFew : List ℕ → Type 0
AllFew l = (k : ℕ) → k < length l → get_or l k 0 ≤ 11

pub record FirstLong (l : List ℕ) (k : ℕ) : Type 0 where
  pub there : k < length l
  pub more : 11 < get_or l k 0
  pub before-few : (j : ℕ) → j < k → get_or l j 0 ≤ 11
