-- Interpretations: two words, the true atoms and the false atoms, bit i for atom i.
-- From: document 01, "Interpretations and the step"; document 02, [6] (newly decided atoms).
--
--   nothing             the interpretation in which nothing is decided
--   value_at i a        the value of atom a in i
--   of_values v         the interpretation that gives the atoms below 64 the values v
--   decided_in i        the number of decided atoms
--   newly_decided i j   the number of atoms that are undecided in i and decided in j
--   Disjoint i          no atom is both true and false in i
--   same_in i j         i and j are the same interpretation
use Rattle.std.specs.Prelude.{◌≡◌, Bool, true, false, not, ◌&&◌, ℕ, ◌+◌, eqb}
use Rattle.std.specs.Int.Bits.{bit_and}
use Rattle.std.specs.Int.Count.{ones}
use Rattle.words.specs.Bits.{has, word}
use Rattle.logic.specs.declared.value.Value.{Value}
use Rattle.logic.specs.declared.value.Value.TheVariants.{False, Unknown, True}
use Rattle.logic.specs.declared.interpretation.Interpretation.{Interpretation}
use Rattle.logic.specs.Value.{is_true, is_false, is_decided}

abbrev pub nothing : Interpretation
nothing = record { trues = 0; falses = 0 }

-- the value of an atom that is, or is not, among the true atoms and among the false ones
abbrev pub among : Bool → Bool → Value
among true b = True
among false true = False
among false false = Unknown

abbrev pub value_at : Interpretation → ℕ → Value
value_at i a = among (has i.trues a) (has i.falses a)

abbrev pub of_values : (ℕ → Value) → Interpretation
of_values v = record { trues = word 64 (λ a. is_true (v a)); falses = word 64 (λ a. is_false (v a)) }

abbrev pub decided_in : Interpretation → ℕ
decided_in i = ones i.trues + ones i.falses

abbrev pub newly_decided : Interpretation → Interpretation → ℕ
newly_decided i j = ones (word 64 (λ a. not (is_decided (value_at i a)) && is_decided (value_at j a)))

abbrev pub Disjoint : Interpretation → Type 0
Disjoint i = bit_and i.trues i.falses ≡ 0

abbrev pub same_in : Interpretation → Interpretation → Bool
same_in i j = eqb i.trues j.trues && eqb i.falses j.falses
