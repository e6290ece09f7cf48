-- The text of layers, and of a ring.
-- From: document 02, request [3]; the words of its lines: docs/DECISIONS.md.
--
--   layer_line name ks a     the line of the atom a, whose number is entry a of ks
--   layer_lines name ks      the lines of the atoms with the numbers ks, in atom order
--   numbers_text name ks     that the case is layered, and those lines
--   ring_text name l         the line of the ring l
use Rattle.std.specs.Prelude.{List, [], ◌∷◌, ◌++◌, map, ℕ, length, get_or}
use Rattle.words.specs.Lists.{list_of}
use Rattle.text.specs.Bytes.{bytes}
use Rattle.output.specs.Decimal.{decimal}
use Rattle.output.specs.Forms.{line}
use Rattle.wording.specs.Text.{lines_of}

-- "(layer N k)"; name gives the name of each atom
unfoldable pub layer_line : (ℕ → List ℕ) → List ℕ → ℕ → List ℕ
layer_line name ks a = line (bytes "layer") (name a ∷ (decimal (get_or ks a 0) ∷ []))

abbrev pub layer_lines : (ℕ → List ℕ) → List ℕ → List ℕ
layer_lines name ks = lines_of (layer_line name ks) (list_of (length ks) (λ a. a))

-- "(layered)" and the lines
unfoldable pub numbers_text : (ℕ → List ℕ) → List ℕ → List ℕ
numbers_text name ks = line (bytes "layered") [] ++ layer_lines name ks

-- "(ring N ..)"
unfoldable pub ring_text : (ℕ → List ℕ) → List ℕ → List ℕ
ring_text name l = line (bytes "ring") (map name l)
