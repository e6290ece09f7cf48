-- What is claimed of the text of layers beyond the contract of *layer report*. Proved in proofs/Theorems.antt.
-- From: document 02, request [3].
--
--   LayersFit     how long a text can be
--   LayersCut     a file that is too long, cut behind the limit
use Rattle.std.specs.Prelude.{List, ℕ, ◌≤◌, ◌<◌, length, take}
use Rattle.layer_report.specs.Report.{LayersOf}

-- a bound on the length of any text: a line, and 64 lines with a name of 16 bytes and a number of 20 digits
abbrev pub layers_limit : ℕ
layers_limit = 2954

-- an output of that many bytes is long enough for the text of any file
abbrev pub LayersFit : Type 0
LayersFit = (f t : List ℕ) → LayersOf f t → length t ≤ layers_limit

-- a text of the first k bytes of a file is one of the file, where k is over the limit of 32,768
abbrev pub LayersCut : Type 0
LayersCut = (f t : List ℕ) (k : ℕ) → 32768 < k → LayersOf (take k f) t → LayersOf f t
