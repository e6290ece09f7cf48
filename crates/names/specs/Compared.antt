-- A word compared with an entry of the names table.
-- From: document 02, [4] ("Comparing a word with one entry now tells three outcomes apart, each given exactly when it
-- holds").
--
--   last_place w          the place of the last byte of the word w
--   agree_at row w j      the row and the word have the same byte at place j, past their ends 0
--   ends_agree row w      they agree at the places of the word's first and last byte
--   compared_as row w     the outcome for the word w and the entry in the row
use Rattle.std.specs.Prelude.{Bool, ◌&&◌, List, ℕ, ◌-◌, eqb, length, get_or}
use Rattle.words.specs.Choice.{pick}
use Rattle.text.specs.Bytes.{same_bytes}
use Rattle.table.specs.Filled.{padded}
use Rattle.names.specs.declared.compare.Compared.{Compared}
use Rattle.names.specs.declared.compare.Compared.TheVariants.{EndsDiffer, Another, Same}

abbrev pub last_place : List ℕ → ℕ
last_place w = length w - 1

abbrev pub agree_at : List ℕ → List ℕ → ℕ → Bool
agree_at row w j = eqb (get_or row j 0) (get_or w j 0)

unfoldable pub ends_agree : List ℕ → List ℕ → Bool
ends_agree row w = agree_at row w 0 && agree_at row w (last_place w)

unfoldable pub compared_as : List ℕ → List ℕ → Compared
compared_as row w = pick (ends_agree row w) (pick (same_bytes row (padded 16 w)) Same Another) EndsDiffer
