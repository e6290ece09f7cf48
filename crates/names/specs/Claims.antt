-- What is claimed of names beyond the contracts of this crate. Proved in proofs/Theorems.antt.
-- From: document 02, [4] ("the word's first or last byte differs from the entry's byte at that place; these agree but
-- the entry is another name; the entry is the word").
--
--   SameAt n w j         the entry n and the word w have the same byte at place j, past their ends 0
--   OutcomeOf n w c      c is the outcome for the entry n and the word w
--   ComparedExact        how a word compares with an entry of a table that holds names
use Rattle.std.specs.Prelude.{◌≡◌, List, [], ◌↔◌, ◌⊎◌, ℕ, ◌≤◌, ◌<◌, length, get_or}
use Rattle.program.specs.Case.{name_size}
use Rattle.names.specs.declared.compare.Compared.{Compared}
use Rattle.names.specs.declared.compare.Compared.TheVariants.{EndsDiffer, Another, Same}
use Rattle.names.specs.Row.{row_at}
use Rattle.names.specs.Compared.{last_place, compared_as}
use Rattle.names.specs.Held.{NoZero, Holds}

abbrev pub SameAt : List ℕ → List ℕ → ℕ → Type 0
SameAt n w j = get_or n j 0 ≡ get_or w j 0

-- each of the three outcomes is given exactly when it holds
pub record OutcomeOf (n w : List ℕ) (c : Compared) : Type 0 where
  pub ends-differ_iff : (c ≡ EndsDiffer) ↔ ((SameAt n w 0 → ⊥) ⊎ (SameAt n w (last_place w) → ⊥))
  pub another_iff : (c ≡ Another) ↔ (SameAt n w 0 × SameAt n w (last_place w) × (n ≡ w → ⊥))
  pub same_iff : (c ≡ Same) ↔ (n ≡ w)

-- a word of any length, without a byte 0, and row i of a table that holds the names ns
abbrev pub ComparedExact : Type 0
ComparedExact = (ns : List (List ℕ)) (t : List ℕ) → Holds ns t → name_size ≤ length t
    → (i : ℕ) → i < length ns → (w : List ℕ) → NoZero w → OutcomeOf (get_or ns i []) w (compared_as (row_at t i) w)
