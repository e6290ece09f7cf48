-- What the inner functions of the layer report ask of the entries of an answer, and write.
--
--   Atoms l                 l are atoms
--   entries_text name b l   the text of the numbers l of a layered case, or of the ring l, as b says
--   layers_shown name a     the text of what *layers* answers
--   Told names a            what is asked of the table of names, and of that answer
use Rattle.std.specs.Prelude.{◌≡◌, Bool, true, false, List, ℕ, ◌≤◌, ◌<◌, length, get_or, take}
use Rattle.words.specs.Choice.{pick}
use Rattle.program.specs.Case.{name_size}
use Rattle.layering.specs.declared.answer.Layers.{Layers}
use Rattle.layer_report.specs.Text.{numbers_text, ring_text}

pub record Atoms (l : List ℕ) : Type 0 where
  pub below : (i : ℕ) → i < length l → get_or l i 0 < 64

abbrev pub entries_text : (ℕ → List ℕ) → Bool → List ℕ → List ℕ
entries_text name b l = pick b (numbers_text name l) (ring_text name l)

abbrev pub layers_shown : (ℕ → List ℕ) → Layers → List ℕ
layers_shown name (Layers.Layered e) = entries_text name true (take e.count e.entries)
layers_shown name (Layers.Ring e) = entries_text name false (take e.count e.entries)

-- of the entries l of a layered case or of a ring, as b says
pub record ToldEntries (names : List ℕ) (b : Bool) (l : List ℕ) : Type 0 where
  pub names_fit : name_size ≤ length names
  pub few : length l ≤ 64
  pub ring-atoms : b ≡ false → Atoms l

abbrev pub Told : List ℕ → Layers → Type 0
Told names (Layers.Layered e) = (e.count ≤ 64) × ToldEntries names true (take e.count e.entries)
Told names (Layers.Ring e) = (e.count ≤ 64) × ToldEntries names false (take e.count e.entries)
