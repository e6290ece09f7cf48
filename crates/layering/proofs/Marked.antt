-- The marked files M1, M3, M4, M9 and M10 of document 01 and a file of request [3], layered by computation: whether the
-- case is layered, and its numbers. Assumes nothing.
use mathlib.Core.Path.{◌≡◌, refl}
use mathlib.Core.List.{List, [], ◌∷◌, map}
use Prim.Native.Nat.{ℕ}
use Rattle.words.specs.Bits.{has, word}
use Rattle.words.specs.Choice.{pick}
use Rattle.words.specs.Lists.{list_of}
use Rattle.program.specs.declared.case.Case.{Case}
use Rattle.layering.specs.Layers.{chain_heads, least_number, layered}
use Rattle.layering.specs.Operation.{layered_in, numbers_in}

-- a file's numbers of atoms and of clauses, its clauses, and the number of each atom, none where there is a ring
record Row : Type 0 where
  atoms : ℕ
  count : ℕ
  clauses : List ℕ
  expected : List ℕ

abbrev case_of : Row → Case
case_of r = record {
  atoms = r.atoms;
  clauses = r.count;
  constraints = 0;
  formulas = 1;
  plain = 0;
  negated = 0;
  nodes = 1 ∷ [];
  edition = 1;
}

abbrev numbers : Row → List ℕ
numbers r = pick (layered_in (case_of r) r.clauses) (numbers_in (case_of r) r.clauses) []

-- M1: (if low dampershut (not ab));(false ab)
abbrev m1 : Row
m1 = record { atoms = 3; count = 2; clauses = 128 ∷ 2 ∷ 4 ∷ 66 ∷ 0 ∷ 0 ∷ []; expected = 1 ∷ 0 ∷ 0 ∷ [] }

-- M3: (if p q);(if q p)
abbrev m3 : Row
m3 = record { atoms = 2; count = 2; clauses = 128 ∷ 2 ∷ 0 ∷ 129 ∷ 1 ∷ 0 ∷ []; expected = [] }

-- M4: (if low shut (not ab1));(if low stopped (not ab2));(false ab1);(false ab2)
abbrev m4 : Row
m4 = record {
  atoms = 5;
  count = 4;
  clauses = 128 ∷ 2 ∷ 4 ∷ 128 ∷ 8 ∷ 16 ∷ 66 ∷ 0 ∷ 0 ∷ 68 ∷ 0 ∷ 0 ∷ [];
  expected = 1 ∷ 0 ∷ 0 ∷ 0 ∷ 0 ∷ [];
}

-- M9: (if b a (not a))
abbrev m9 : Row
m9 = record { atoms = 2; count = 1; clauses = 128 ∷ 2 ∷ 2 ∷ []; expected = 1 ∷ 0 ∷ [] }

-- M10: (true a);(false a)
abbrev m10 : Row
m10 = record { atoms = 1; count = 2; clauses = 0 ∷ 0 ∷ 0 ∷ 64 ∷ 0 ∷ 0 ∷ []; expected = 0 ∷ [] }

-- (if a d);(if a b);(if b c);(if c d)
abbrev longest : Row
longest = record {
  atoms = 4;
  count = 4;
  clauses = 128 ∷ 2 ∷ 0 ∷ 128 ∷ 4 ∷ 0 ∷ 130 ∷ 8 ∷ 0 ∷ 131 ∷ 2 ∷ 0 ∷ [];
  expected = 3 ∷ 0 ∷ 2 ∷ 1 ∷ [];
}

abbrev marked : List Row
marked = m1 ∷ m3 ∷ m4 ∷ m9 ∷ m10 ∷ longest ∷ []

marked-layered : map numbers marked ≡ map (λ (r : Row). r.expected) marked
unfolding has word list_of chain_heads least_number layered
marked-layered = refl
