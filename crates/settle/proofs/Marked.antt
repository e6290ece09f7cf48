-- The marked files M3, M9 and M10 of document 01, settled by computation: for each of their settings the true atoms,
-- the false atoms, the rounds and the decided atoms. Assumes nothing.
use mathlib.Core.Path.{◌≡◌, refl}
use mathlib.Core.List.{List, [], ◌∷◌, ◌++◌, map}
use Prim.Native.Nat.{ℕ, zero, suc}
use lib.Count.{ones}
use Rattle.words.specs.Below.{sum}
use Rattle.words.specs.Bits.{has, word}
use Rattle.logic.specs.Formula.{value_of, literals_below}
use Rattle.program.specs.declared.case.Case.{Case}
use Rattle.program.specs.Program.{clause_at, clauses_of, added_below, heads_of}
use Rattle.program.specs.Cause.{causes_among, causes_in, causes_of, atoms_from}
use Rattle.program.specs.Setting.{choices_for, product, digits, digit_of, settings_of, additions_of}
use Rattle.settle.specs.declared.settle.Settled.{Settled}
use Rattle.settle.specs.Step.{bodies_of, some_true, all_false, next_value, step}
use Rattle.settle.specs.Rounds.{rounds, round_count, settled}
use Rattle.settle.specs.Operation.{program_of}

-- a file's case and clauses, and what each setting settles to
record Row : Type 0 where
  case : Case
  clauses : List ℕ
  expected : List Settled

-- a case of edition 1 with n atoms, m clauses, one formula of one node, and these observed literals
abbrev case_of : ℕ → ℕ → ℕ → ℕ → Case
case_of n m p q = record {
  atoms = n;
  clauses = m;
  constraints = 0;
  formulas = 1;
  plain = p;
  negated = q;
  nodes = 1 ∷ [];
  edition = 1;
}

abbrev answer : ℕ → ℕ → ℕ → ℕ → Settled
answer t f k d = record { interpretation = record { trues = t; falses = f }; rounds = k; decided = d }

-- the numbers below n
abbrev up_to : ℕ → List ℕ
up_to zero = []
up_to (suc n) = up_to n ++ (n ∷ [])

abbrev answers : Row → List Settled
answers r =
    map (λ s. settled (program_of r.case r.clauses s)) (up_to (settings_of (causes_of r.case r.clauses)))

-- M3: (if p q);(if q p);(seen p);(query q)
abbrev m3 : Row
m3 = record {
  case = case_of 2 2 1 0;
  clauses = 128 ∷ 2 ∷ 0 ∷ 129 ∷ 1 ∷ 0 ∷ [];
  expected = answer 0 0 0 0 ∷ [];
}

-- M9: (if b a (not a));(seen (not b));(query b)
abbrev m9 : Row
m9 = record {
  case = case_of 2 1 0 1;
  clauses = 128 ∷ 2 ∷ 2 ∷ [];
  expected = answer 0 0 0 0 ∷ answer 2 1 2 2 ∷ answer 0 3 2 2 ∷ [];
}

-- M10: (true a);(false a);(query a)
abbrev m10 : Row
m10 = record {
  case = case_of 1 2 0 0;
  clauses = 0 ∷ 0 ∷ 0 ∷ 64 ∷ 0 ∷ 0 ∷ [];
  expected = answer 1 0 1 1 ∷ [];
}

abbrev marked : List Row
marked = m3 ∷ m9 ∷ m10 ∷ []

marked-settled : map answers marked ≡ map (λ (r : Row). r.expected) marked
unfolding has word value_of literals_below clause_at clauses_of added_below heads_of causes_among causes_in causes_of
    atoms_from
    choices_for product digits digit_of settings_of additions_of bodies_of some_true all_false next_value step
    rounds round_count sum ones settled
marked-settled = refl
