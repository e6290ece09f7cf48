-- Layers of a relation of dependence among n atoms, r a b where a depends on b.
-- From: document 02, request [3]; document 003 (a numbering is its level mapping, a layered case is acyclic).
--
--   chain_heads n r k    the atoms from which a chain of k dependencies starts, bit a for atom a
--   least_number n r a   how long the longest chain from a is, where no chain is as long as there are atoms
--   layered n r          no chain is as long as there are atoms
--   Numbering n r v      the number v a of each atom a is greater than that of every atom it depends on
--   Ring n r l           the atoms l are distinct, each depends on the next, and the last on the first
use Rattle.std.specs.Prelude.{◌≡◌, Bool, true, not, ◌&&◌, List, ℕ, zero, suc, ◌+◌, ◌<◌, eqb, length, get_or}
use Rattle.words.specs.Below.{any, first}
use Rattle.words.specs.Bits.{has, word}

unfoldable pub chain_heads : ℕ → (ℕ → ℕ → Bool) → ℕ → ℕ
chain_heads n r zero = word n (λ a. true)
chain_heads n r (suc k) = let w = chain_heads n r k in word n (λ a. any n (λ b. r a b && has w b))

-- the first k for which no chain of k + 1 dependencies starts from a
unfoldable pub least_number : ℕ → (ℕ → ℕ → Bool) → ℕ → ℕ
least_number n r a = first n (λ k. not (has (chain_heads n r (suc k)) a))

unfoldable pub layered : ℕ → (ℕ → ℕ → Bool) → Bool
layered n r = eqb (chain_heads n r n) 0

abbrev pub Numbering : ℕ → (ℕ → ℕ → Bool) → (ℕ → ℕ) → Type 0
Numbering n r v = (a b : ℕ) → a < n → b < n → r a b ≡ true → v b < v a

pub record Ring (n : ℕ) (r : ℕ → ℕ → Bool) (l : List ℕ) : Type 0 where
  pub some : 0 < length l
  pub atoms : (i : ℕ) → i < length l → get_or l i 0 < n
  pub distinct : (i j : ℕ) → i < j → j < length l → get_or l i 0 ≡ get_or l j 0 → ⊥
  pub linked : (i : ℕ) → i + 1 < length l → r (get_or l i 0) (get_or l (i + 1) 0) ≡ true
  pub closed : (i : ℕ) → i + 1 ≡ length l → r (get_or l i 0) (get_or l 0 0) ≡ true
