-- Sound cases.
-- From: document 01, "Case tables and sound cases", phrase by phrase; document 02, [5] (a constraint's third word),
-- [10] ("the case record holds the edition, 1 or 2, any other being unsound"; "a product of at most 59,049 settings").
--
--   is_edition e       there is an edition e: 1 or 2
--   limits_hold c      1 to 64 atoms, at most 256 clauses and 32 constraints, 1 to 16 formulas, edition 1 or 2
--   within n p q       every bit of the two words names one of n atoms
--   bare p q           neither word has a bit
--   shaped k b         facts and assumptions have no literal (b), rules have one or more; there is no other kind
--   sound_clause       a clause's three words, over n atoms
--   sound_constraint   a constraint's three words, over n atoms; its kind is 0 never or 1 avoid
--   few_settings       at most 59,049 settings
--   sound_formula      the nodes of formula q, at most 128, are exactly one formula of depth at most 16 over n atoms
--   sound c cl co fo   the case c with the tables cl, co, fo is sound
use Rattle.std.specs.Prelude.{Bool, false, not, ◌&&◌, List, ℕ, zero, suc, ◌*◌, ◌/◌, ◌%◌, ◌^◌, eqb, ltb, leb, get_or}
use Rattle.words.specs.Below.{every}
use Rattle.logic.specs.Nodes.{one_formula}
use Rattle.program.specs.declared.case.Case.{Case}
use Rattle.program.specs.Case.{part_size, tables_full, plain_at, negated_at, forbidden, forbidden_not}
use Rattle.program.specs.Case.{constraint_kind, nodes_of}
use Rattle.program.specs.Cause.{causes_in}
use Rattle.program.specs.Setting.{settings_of}

abbrev pub is_edition : ℕ → Bool
is_edition e = leb 1 e && leb e 2

unfoldable pub limits_hold : Case → Bool
limits_hold c =
    leb 1 c.atoms
    && leb c.atoms 64
    && leb c.clauses 256
    && leb c.constraints 32
    && leb 1 c.formulas
    && leb c.formulas 16
    && is_edition c.edition

unfoldable pub within : ℕ → ℕ → ℕ → Bool
within n p q = ltb p (2 ^ n) && ltb q (2 ^ n)

abbrev pub bare : ℕ → ℕ → Bool
bare p q = eqb p 0 && eqb q 0

abbrev pub shaped : ℕ → Bool → Bool
shaped zero b = b
shaped (suc zero) b = b
shaped (suc (suc zero)) b = not b
shaped (suc (suc (suc k))) b = false

-- the first word is head + 64 × kind
unfoldable pub sound_clause : ℕ → ℕ → ℕ → ℕ → Bool
sound_clause n first p q = ltb (first % 64) n && within n p q && shaped (first / 64) (bare p q)

unfoldable pub sound_clauses : ℕ → List ℕ → ℕ → Bool
sound_clauses n cl m = every m (λ k. sound_clause n (get_or cl (3 * k) 0) (plain_at cl k) (negated_at cl k))

unfoldable pub sound_constraint : ℕ → ℕ → ℕ → ℕ → Bool
sound_constraint n p q k = within n p q && not (bare p q) && ltb k 2

unfoldable pub sound_constraints : ℕ → List ℕ → ℕ → Bool
sound_constraints n co m =
    every m (λ k. sound_constraint n (forbidden co k) (forbidden_not co k) (constraint_kind co k))

-- in edition e, of n atoms with the first m clauses of a table
unfoldable pub few_settings : ℕ → ℕ → List ℕ → ℕ → Bool
few_settings e n cl m = leb (settings_of (causes_in e n cl m)) 59049

-- ns has the node count of each formula
unfoldable pub sound_formula : ℕ → List ℕ → List ℕ → ℕ → Bool
sound_formula n ns fo q = leb (get_or ns q 0) part_size && one_formula n (nodes_of ns fo q)

unfoldable pub sound_formulas : ℕ → List ℕ → List ℕ → ℕ → Bool
sound_formulas n ns fo m = every m (sound_formula n ns fo)

unfoldable pub sound : Case → List ℕ → List ℕ → List ℕ → Bool
sound c cl co fo =
    tables_full cl co fo
    && limits_hold c
    && sound_clauses c.atoms cl c.clauses
    && sound_constraints c.atoms co c.constraints
    && within c.atoms c.plain c.negated
    && few_settings c.edition c.atoms cl c.clauses
    && sound_formulas c.atoms c.nodes fo c.formulas
