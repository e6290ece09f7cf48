-- What the operation *generate* answers and leaves in the lent output, on every input.
-- From: document 02, [11] ("22 when n is outside 1 to 64 or c over 256, and 23 when the output is too short"), [8] ("An
-- operation that writes a text answers its length in bytes"); document 01, "What each operation refuses" ("For
-- operations and tables that come later").
--
--   is_load n c            there is a load with n atoms and c clauses
--   load_refusal s n c m   0, or 22 there is no such load, 23 the output, m bytes long, shorter than its text
--   Generated ..           the answer and the output at exit
use Rattle.std.specs.Prelude.{Bool, ◌&&◌, List, [], ◌∷◌, ℕ, Result, leb, length}
use Rattle.refusals.specs.declared.Refusal.{Refusal}
use Rattle.words.specs.Choice.{check, first_failed}
use Rattle.output.specs.Showing.{Shown}
use Rattle.loading.specs.Load.{load_text}

unfoldable pub is_load : ℕ → ℕ → Bool
is_load n c = leb 1 n && leb n 64 && leb c 256

unfoldable pub load_refusal : ℕ → ℕ → ℕ → ℕ → ℕ
load_refusal s n c m = first_failed (check 22 (is_load n c) ∷ check 23 (leb (length (load_text s n c)) m) ∷ [])

-- the seed s, n atoms, c clauses, and the output at entry and at exit
abbrev pub Generated : ℕ → ℕ → ℕ → List ℕ → Result ℕ Refusal → List ℕ → Type 0
Generated s n c out r outAfter = Shown (load_refusal s n c (length out)) (load_text s n c) out r outAfter
