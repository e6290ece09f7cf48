-- What is claimed of loads beyond the contract of *generate*. Proved in proofs/Theorems.antt.
-- From: document 02, [11].
--
--   LoadFits       how long a load can be
--   DrawnByHand    the first ten draws from seed 1
use Rattle.std.specs.Prelude.{◌≡◌, true, ℕ, ◌≤◌, length}
use Rattle.loading.specs.Draws.{draw}
use Rattle.loading.specs.Load.{load_text}
use Rattle.loading.specs.Operation.{is_load}

-- 64 atom lines of at most 11 bytes with their LF, 256 clauses of at most 36, and the query
abbrev pub longest_load : ℕ
longest_load = 9931

-- an output of that many bytes is long enough for any load
abbrev pub LoadFits : Type 0
LoadFits = (s n c : ℕ) → is_load n c ≡ true → length (load_text s n c) ≤ longest_load

abbrev pub DrawnByHand : Type 0
DrawnByHand = (draw 1 1 ≡ 15496) × (draw 2 1 ≡ 24200) × (draw 3 1 ≡ 33046) × (draw 4 1 ≡ 46195)
    × (draw 5 1 ≡ 3312) × (draw 6 1 ≡ 24216) × (draw 7 1 ≡ 50774) × (draw 8 1 ≡ 36450)
    × (draw 9 1 ≡ 1080) × (draw 10 1 ≡ 41893)
