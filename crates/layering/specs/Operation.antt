-- What the operation *layers* answers, on every input.
-- From: document 02, request [3]; document 01, "What each operation refuses" ("For operations and tables that come
-- later").
--
--   layers_refusal    0, or 1 a lent table too short, 13 the case isn't sound
--   dependence c cl   which atom of the case depends on which: a clause with the one as its head names the other
--   layered_in c cl   the case is layered
--   numbers_in c cl   the least number of each atom, in atom order
--   RingIn c cl l     l is a ring of the case
--   Answered c cl a   a has the numbers of a layered case, or a ring of another
--   Layering          the refusal, or what is answered
use Rattle.std.specs.Prelude.{◌≡◌, Bool, true, false, List, [], ◌∷◌, ℕ, length, Result, IfOk}
use Rattle.refusals.specs.declared.Refusal.{Refusal}
use Rattle.refusals.specs.Refusal.{refused_as}
use Rattle.words.specs.Choice.{check, first_failed}
use Rattle.words.specs.Lists.{list_of}
use Rattle.table.specs.Filled.{padded}
use Rattle.program.specs.declared.case.Case.{Case}
use Rattle.program.specs.Case.{tables_full}
use Rattle.program.specs.Program.{depends_on}
use Rattle.program.specs.Sound.{sound}
use Rattle.layering.specs.declared.answer.Entries.{Entries}
use Rattle.layering.specs.declared.answer.Layers.{Layers}
use Rattle.layering.specs.Layers.{least_number, layered, Ring}

unfoldable pub layers_refusal : Case → List ℕ → List ℕ → List ℕ → ℕ
layers_refusal c cl co fo = first_failed (check 1 (tables_full cl co fo) ∷ check 13 (sound c cl co fo) ∷ [])

abbrev pub dependence : Case → List ℕ → ℕ → ℕ → Bool
dependence c cl = depends_on cl c.clauses

abbrev pub layered_in : Case → List ℕ → Bool
layered_in c cl = layered c.atoms (dependence c cl)

abbrev pub numbers_in : Case → List ℕ → List ℕ
numbers_in c cl = list_of c.atoms (least_number c.atoms (dependence c cl))

abbrev pub RingIn : Case → List ℕ → List ℕ → Type 0
RingIn c cl l = Ring c.atoms (dependence c cl) l

-- n entries, those of l, and zeros behind them
abbrev pub entries_of : ℕ → List ℕ → Entries
entries_of n l = record { count = n; entries = padded 64 l }

-- which ring is answered stays free
abbrev pub Answered : Case → List ℕ → Layers → Type 0
Answered c cl (Layers.Layered e) = (layered_in c cl ≡ true) × (e ≡ entries_of c.atoms (numbers_in c cl))
Answered c cl (Layers.Ring e) =
    (layered_in c cl ≡ false) × (l : List ℕ) × RingIn c cl l × (e ≡ entries_of (length l) l)

pub record Layering (c : Case) (cl co fo : List ℕ) (r : Result Layers Refusal) : Type 0 where
  pub refusal_is : refused_as r ≡ layers_refusal c cl co fo
  pub answered : IfOk r (Answered c cl)
