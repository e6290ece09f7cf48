-- The atoms of literals by a lookup of names, in two words.
--
--   with_atom w a         the word w with bit a, where a is below 64
--   with_literal m b a    the words m with atom a, among the negated ones where b holds
--   masks_by at ls        the atoms of the literals ls, by the lookup at
use Rattle.std.specs.Prelude.{Bool, true, false, List, ℕ, ◌^◌, ltb}
use Rattle.std.specs.Int.Bits.{bit_or}
use Rattle.words.specs.Choice.{pick}
use Rattle.grammar.specs.Line.{Literal}
use Rattle.store.specs.declared.masks.Masks.{Masks}
use Rattle.store.specs.Saying.{atoms_by}

abbrev pub masks : ℕ → ℕ → Masks
masks p q = record { plain = p; negated = q }

abbrev pub with_atom : ℕ → ℕ → ℕ
with_atom w a = pick (ltb a 64) (bit_or w (2 ^ a)) w

abbrev pub with_literal : Masks → Bool → ℕ → Masks
with_literal m b a = pick b (masks m.plain (with_atom m.negated a)) (masks (with_atom m.plain a) m.negated)

abbrev pub masks_by : (List ℕ → ℕ) → List Literal → Masks
masks_by at ls = masks (atoms_by at false ls) (atoms_by at true ls)
