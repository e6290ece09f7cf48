-- What the inner functions promise of the numbers, by a table t of dependents: entry b has the atoms that depend on b.
--
--   linked_by t a b    a depends on b by the table t
--   Given t w k u      the entries u are those of t with the number k for the atoms of w
--   Numbered n t w u   w are those of n atoms from which a chain as long as there are atoms starts; u has the least
--                      number of each other atom, and 0 elsewhere
use Rattle.std.specs.Prelude.{◌≡◌, Bool, not, ◌&&◌, List, ℕ, ◌<◌, ltb, length, get_or}
use Rattle.words.specs.Choice.{pick}
use Rattle.words.specs.Bits.{has}
use Rattle.layering.specs.Layers.{chain_heads, least_number}

abbrev pub linked_by : List ℕ → ℕ → ℕ → Bool
linked_by t a b = has (get_or t b 0) a

pub record Given (t : List ℕ) (w k : ℕ) (u : List ℕ) : Type 0 where
  pub size_is : length u ≡ 64
  pub entry-is : (a : ℕ) → a < 64 → get_or u a 0 ≡ pick (has w a) k (get_or t a 0)

pub record Numbered (n : ℕ) (t : List ℕ) (w : ℕ) (u : List ℕ) : Type 0 where
  pub stuck_are : w ≡ chain_heads n (linked_by t) n
  pub size_is : length u ≡ 64
  pub entry-is : (a : ℕ) → a < 64 → get_or u a 0 ≡ pick (ltb a n && not (has w a)) (least_number n (linked_by t) a) 0
