-- One round in lanes.
--
--   noted_with c a m   c with the atom a that changed in the lanes m, or in none
--   open_at t f j a    the atom a is undecided in lane j
--   Noted ..           where one head is decided among the open lanes is noted
--   ruled ..           what the rules of an atom are worth in a lane
--   fresh q ..         a head of a word is undecided in a lane, and what its rules are worth passes the test q
--   Taken ..           one head taken: where its rules decide it is noted, and what it changed
--   Decided ..         where the heads of a word are decided by their rules
--   Committed ..       the planes with these lanes taken in
--   Redone ..          in each lane the open atoms of a word are decided anew, and which lanes and atoms changed
use Rattle.std.specs.Prelude.{◌≡◌, Bool, true, not, ◌&&◌, ◌||◌, List, ℕ, ◌<◌, eqb, get_or, set}
use Rattle.std.specs.Int.Bits.{bit_and, bit_or}
use Rattle.words.specs.Choice.{pick}
use Rattle.words.specs.Below.{any}
use Rattle.words.specs.Bits.{has}
use Rattle.words.specs.OneBit.{with_bit}
use Rattle.logic.specs.declared.value.Value.{Value}
use Rattle.logic.specs.Value.{is_true, is_false, is_decided}
use Rattle.logic.specs.Interpretation.{value_at}
use Rattle.prepared.specs.Chains.{rules_value}
use Rattle.planes.specs.declared.plane.Lanes.{Lanes}
use Rattle.round.specs.declared.redo.Changed.{Changed}
use Rattle.planes.specs.Planes.{at, column, Sizes}

abbrev pub noted_with : Changed → ℕ → ℕ → Changed
noted_with c a m = record { lanes = bit_or c.lanes m; atoms = with_bit (not (eqb m 0)) c.atoms a }

abbrev pub open_at : List ℕ → List ℕ → ℕ → ℕ → Bool
open_at t f j a = not (at t j a || at f j a)

pub record Noted (c : Changed) (a free : ℕ) (v : Lanes) (ut uf ut₁ uf₁ : List ℕ) (r : Changed) : Type 0 where
  pub up_is : ut₁ ≡ set ut a (bit_and v.trues free)
  pub down_is : uf₁ ≡ set uf a (bit_and v.falses free)
  pub noted : r ≡ noted_with c a (bit_or (bit_and v.trues free) (bit_and v.falses free))

abbrev pub ruled : List ℕ → ℕ → List ℕ → List ℕ → ℕ → ℕ → Value
ruled cl n t f j a = rules_value (value_at (column t f j)) cl a n

abbrev pub fresh : (Value → Bool) → List ℕ → ℕ → ℕ → List ℕ → List ℕ → ℕ → ℕ → Bool
fresh q cl n heads t f j a = has heads a && (open_at t f j a && q (ruled cl n t f j a))

pub record Taken (cl : List ℕ) (n : ℕ) (t f : List ℕ) (a : ℕ) (ut uf : List ℕ) (c : Changed) (ut₁ uf₁ : List ℕ)
    (r : Changed) : Type 0 where
  pub sizes : Sizes ut₁ uf₁
  pub up-here : (j : ℕ) → j < 64 → (has r.atoms a && at ut₁ j a) ≡ (open_at t f j a && is_true (ruled cl n t f j a))
  pub down-here : (j : ℕ) → j < 64
      → (has r.atoms a && at uf₁ j a) ≡ (open_at t f j a && is_false (ruled cl n t f j a))
  pub atoms-other : (b : ℕ) → (b ≡ a → ⊥) → has r.atoms b ≡ has c.atoms b
  pub up-other : (b : ℕ) → (b ≡ a → ⊥) → get_or ut₁ b 0 ≡ get_or ut b 0
  pub down-other : (b : ℕ) → (b ≡ a → ⊥) → get_or uf₁ b 0 ≡ get_or uf b 0
  pub lanes_are : (j : ℕ) → j < 64
      → has r.lanes j ≡ (has c.lanes j || open_at t f j a && is_decided (ruled cl n t f j a))

pub record Decided (cl : List ℕ) (n heads : ℕ) (t f ut uf : List ℕ) (r : Changed) : Type 0 where
  pub sizes : Sizes ut uf
  pub ups : (j a : ℕ) → j < 64 → a < 64 → (has r.atoms a && at ut j a) ≡ fresh is_true cl n heads t f j a
  pub downs : (j a : ℕ) → j < 64 → a < 64 → (has r.atoms a && at uf j a) ≡ fresh is_false cl n heads t f j a
  pub lanes_are : (j : ℕ) → j < 64 → has r.lanes j ≡ any 64 (fresh is_decided cl n heads t f j)

pub record Committed (w : ℕ) (ut uf t f t₁ f₁ : List ℕ) : Type 0 where
  pub sizes : Sizes t₁ f₁
  pub trues_are : (a : ℕ) → a < 64
      → get_or t₁ a 0 ≡ pick (has w a) (bit_or (get_or t a 0) (get_or ut a 0)) (get_or t a 0)
  pub falses_are : (a : ℕ) → a < 64
      → get_or f₁ a 0 ≡ pick (has w a) (bit_or (get_or f a 0) (get_or uf a 0)) (get_or f a 0)

pub record Redone (cl : List ℕ) (n heads : ℕ) (t f t₁ f₁ : List ℕ) (r : Changed) : Type 0 where
  pub trues_are : (j a : ℕ) → j < 64 → a < 64 → at t₁ j a ≡ (at t j a || fresh is_true cl n heads t f j a)
  pub falses_are : (j a : ℕ) → j < 64 → a < 64 → at f₁ j a ≡ (at f j a || fresh is_false cl n heads t f j a)
  pub lanes_are : (j : ℕ) → j < 64 → has r.lanes j ≡ any 64 (fresh is_decided cl n heads t f j)
  pub atoms_are : (j a : ℕ) → j < 64 → a < 64 → fresh is_decided cl n heads t f j a ≡ true → has r.atoms a ≡ true
