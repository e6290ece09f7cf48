-- Programs: lists of clauses.
-- From: document 01, "Interpretations and the step" (a clause is a head and a body) and "Case tables and sound cases".
--
--   Clause                a head and a body
--   clause_at cl k        clause k of a table
--   clauses_of cl n       the first n clauses of a table, in file order
--   added_by x            the facts and the assumptions that a set of causes adds, in atom order
--   program_with cl n x   the first n clauses of a table with a set's facts and assumptions added
--   heads_of cl n         the heads of the first n clauses, bit i for atom i
--   names cl k b          clause k names the atom b in its body, plain or negated
--   depends_on cl n a b   some of the first n clauses has the head a and names b
use Rattle.std.specs.Prelude.{Bool, true, false, ◌&&◌, ◌||◌, List, [], ◌∷◌, ◌++◌, ℕ, zero, suc, eqb}
use Rattle.words.specs.Below.{any}
use Rattle.words.specs.Bits.{has, word}
use Rattle.logic.specs.Formula.{Formula}
use Rattle.logic.specs.Formula as formula
use Rattle.program.specs.declared.cause.Additions.{Additions}
use Rattle.program.specs.Case.{head_at, kind_at, plain_at, negated_at}

pub record Clause : Type 0 where
  pub head : ℕ
  pub body : Formula

abbrev pub clause : ℕ → Formula → Clause
clause a f = record { head = a; body = f }

-- the body of a clause of a kind, 0 a fact, 1 an assumption, 2 a rule with these literals
abbrev pub by_kind : ℕ → Formula → Formula
by_kind zero f = Formula.truth
by_kind (suc zero) f = Formula.falsity
by_kind (suc (suc k)) f = f

unfoldable pub clause_at : List ℕ → ℕ → Clause
clause_at cl k = clause (head_at cl k) (by_kind (kind_at cl k) (formula.body (plain_at cl k) (negated_at cl k)))

unfoldable pub clauses_of : List ℕ → ℕ → List Clause
clauses_of cl zero = []
clauses_of cl (suc k) = clauses_of cl k ++ (clause_at cl k ∷ [])

-- the clause, where the test holds
abbrev pub clause_if : Bool → Clause → List Clause
clause_if true c = c ∷ []
clause_if false c = []

-- what a set adds for the atoms below n
unfoldable pub added_below : Additions → ℕ → List Clause
added_below x zero = []
added_below x (suc a) =
    added_below x a
    ++ (clause_if (has x.facts a) (clause a Formula.truth)
    ++ clause_if (has x.assumptions a) (clause a Formula.falsity))

abbrev pub added_by : Additions → List Clause
added_by x = added_below x 64

abbrev pub program_with : List ℕ → ℕ → Additions → List Clause
program_with cl n x = clauses_of cl n ++ added_by x

-- some of the first n clauses has the head a
abbrev pub headed : List ℕ → ℕ → ℕ → Bool
headed cl n a = any n (λ k. eqb a (head_at cl k))

unfoldable pub heads_of : List ℕ → ℕ → ℕ
heads_of cl n = word 64 (headed cl n)

abbrev pub names : List ℕ → ℕ → ℕ → Bool
names cl k b = has (plain_at cl k) b || has (negated_at cl k) b

abbrev pub depends_on : List ℕ → ℕ → ℕ → ℕ → Bool
depends_on cl n a b = any n (λ k. eqb a (head_at cl k) && names cl k b)
