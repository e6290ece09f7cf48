-- From the bytes of a file to the text of its layers.
-- From: document 02, request [3].
--
--   layered_said st    what a file says is layered
--   RingSaid st l      l is a ring of what a file says
--   layers_said l st   the text of what a file says; l is the ring told where it isn't layered
--   layers_text l f    the text of the file f
--   LayersOf f t       t is the text of the file f; which ring it tells stays free
use Rattle.std.specs.Prelude.{◌≡◌, Bool, false, List, ℕ}
use Rattle.words.specs.Choice.{pick}
use Rattle.store.specs.Saying.{Said}
use Rattle.store.specs.Tables.{case_said}
use Rattle.reader.specs.Reading.{Outcome, read_file}
use Rattle.report.specs.Report.{clause_table, name_of, file_refusal, file_text}
use Rattle.layering.specs.Operation.{layered_in, numbers_in, RingIn}
use Rattle.layer_report.specs.Text.{numbers_text, ring_text}

abbrev pub layered_said : Said → Bool
layered_said st = layered_in (case_said st) (clause_table st)

abbrev pub RingSaid : Said → List ℕ → Type 0
RingSaid st l = RingIn (case_said st) (clause_table st) l

unfoldable pub layers_said : List ℕ → Said → List ℕ
layers_said l st =
    pick (layered_said st) (numbers_text (name_of st) (numbers_in (case_said st) (clause_table st)))
    (ring_text (name_of st) l)

abbrev pub layers_text : List ℕ → List ℕ → List ℕ
layers_text l f = file_text (layers_said l) f

pub record LayersOf (f t : List ℕ) : Type 0 where
  pub ring : List ℕ
  pub ring-is : (st : Said) → file_refusal f ≡ 0 → read_file f ≡ Outcome.case st → layered_said st ≡ false
      → RingSaid st ring
  pub text-is : t ≡ layers_text ring f
