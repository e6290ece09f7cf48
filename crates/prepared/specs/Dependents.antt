-- Which heads a changed atom touches.
--
--   dependents_of cl n i   the heads that depend on i by the first n clauses, bit a for atom a
--   touched_from cl n w    the dependents of the atoms of w
--   Dependents cl n t      the table t has the dependents of each atom
--   Zeros t                the first 64 entries of t are 0
--   Spread t w h u         u is t with the head h added to the dependents of the atoms of w
--   touched_by t w a       the head a is among the dependents of some atom of w
use Rattle.std.specs.Prelude.{◌≡◌, Bool, ◌&&◌, List, ℕ, ◌<◌, length, get_or}
use Rattle.words.specs.Below.{any}
use Rattle.words.specs.Bits.{has, word}
use Rattle.words.specs.OneBit.{with_bit}
use Rattle.program.specs.Program.{depends_on}

unfoldable pub dependents_of : List ℕ → ℕ → ℕ → ℕ
dependents_of cl n i = word 64 (λ a. depends_on cl n a i)

unfoldable pub touched_from : List ℕ → ℕ → ℕ → ℕ
touched_from cl n w = word 64 (λ a. any 64 (λ i. has w i && has (dependents_of cl n i) a))

abbrev pub Dependents : List ℕ → ℕ → List ℕ → Type 0
Dependents cl n t = (i : ℕ) → i < 64 → get_or t i 0 ≡ dependents_of cl n i

abbrev pub Zeros : List ℕ → Type 0
Zeros t = (i : ℕ) → i < 64 → get_or t i 0 ≡ 0

pub record Spread (t : List ℕ) (w h : ℕ) (u : List ℕ) : Type 0 where
  pub size_is : length u ≡ 64
  pub entry-is : (i : ℕ) → i < 64 → get_or u i 0 ≡ with_bit (has w i) (get_or t i 0) h

unfoldable pub touched_by : List ℕ → ℕ → ℕ → Bool
touched_by t w a = any 64 (λ i. has w i && has (get_or t i 0) a)
