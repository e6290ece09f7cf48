-- Causes: atoms that head no clause, and in edition 2 also those whose clauses are all assumptions.
-- From: document 01, "Causes, settings, explanations"; document 004, where an abducible is the added fact or
-- assumption, and not the atom; document 02, [10] ("an atom whose clauses, one or more, are all assumptions is a cause
-- too, with two choices").
--
--   causes_among n heads   those of the n atoms that are no head, bit i for atom i
--   firm_heads cl n        the heads of those of the first n clauses that are no assumption, bit i for atom i
--   assumed_only cl n      the heads whose clauses among the first n are all assumptions, bit i for atom i
--   causes_in e n cl m     the causes in edition e among n atoms with the first m clauses of a table
--   causes_of c cl         the causes of a case
--   atoms_in w             the atoms of a word, in rising order
use Rattle.std.specs.Prelude.{Bool, not, ◌&&◌, List, [], ℕ, zero, suc, eqb, ltb}
use Rattle.std.specs.Int.Bits.{bit_or}
use Rattle.words.specs.Choice.{pick, cons_if}
use Rattle.words.specs.Below.{any}
use Rattle.words.specs.Bits.{has, word}
use Rattle.program.specs.declared.case.Case.{Case}
use Rattle.program.specs.declared.cause.Causes.{Causes}
use Rattle.program.specs.Case.{head_at, kind_at}
use Rattle.program.specs.Program.{headed, heads_of}

unfoldable pub causes_among : ℕ → ℕ → ℕ
causes_among n heads = word 64 (λ a. ltb a n && not (has heads a))

-- some of the first n clauses has the head a and is no assumption
abbrev pub firmly_headed : List ℕ → ℕ → ℕ → Bool
firmly_headed cl n a = any n (λ k. eqb a (head_at cl k) && not (eqb (kind_at cl k) 1))

unfoldable pub firm_heads : List ℕ → ℕ → ℕ
firm_heads cl n = word 64 (firmly_headed cl n)

unfoldable pub assumed_only : List ℕ → ℕ → ℕ
assumed_only cl n = word 64 (λ a. headed cl n a && not (firmly_headed cl n a))

-- the causes w, of which those of tw have two choices and the others three
abbrev pub causes_by : ℕ → ℕ → Causes
causes_by tw w = record { all = w; twofold = tw }

-- the causes of two choices: edition 1 has none
abbrev pub twofold_in : ℕ → List ℕ → ℕ → ℕ
twofold_in e cl m = pick (eqb e 2) (assumed_only cl m) 0

unfoldable pub causes_in : ℕ → ℕ → List ℕ → ℕ → Causes
causes_in e n cl m =
    causes_by (twofold_in e cl m) (bit_or (causes_among n (heads_of cl m)) (twofold_in e cl m))

unfoldable pub causes_of : Case → List ℕ → Causes
causes_of c cl = causes_in c.edition c.atoms cl c.clauses

-- the atoms of a word among the n from a on
unfoldable pub atoms_from : ℕ → ℕ → ℕ → List ℕ
atoms_from w a zero = []
atoms_from w a (suc n) = cons_if (has w a) a (atoms_from w (suc a) n)

abbrev pub atoms_in : ℕ → List ℕ
atoms_in w = atoms_from w 0 64
