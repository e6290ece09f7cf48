-- Draws: numbers that follow from a state of 32 bits.
-- From: document 02, [11] ("Each draw replaces the state by (state × 1,664,525 + 1,013,904,223) mod 2^32 and yields the
-- new state divided by 65,536, rounded down").
--
--   next_state s      the state that a draw puts for the state s
--   state_after k s   the state after k draws from the state s
--   draw k s          what the k-th of these draws yields, counted from 1
use Rattle.std.specs.Prelude.{ℕ, zero, suc, ◌+◌, ◌*◌, ◌/◌, ◌%◌, ◌^◌}

abbrev pub next_state : ℕ → ℕ
next_state s = (s * 1664525 + 1013904223) % (2 ^ 32)

unfoldable pub state_after : ℕ → ℕ → ℕ
state_after zero s = s
state_after (suc k) s = next_state (state_after k s)

abbrev pub draw : ℕ → ℕ → ℕ
draw k s = state_after k s / 65536
