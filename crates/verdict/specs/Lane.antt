-- What is known of the settings of lanes before they are visited.
--
--   query_under i ns fo q   the value under i of the query with the nodes of formula q
--   Askable ns fo k         the queries that the counts k still ask are formulas of the table fo
--   Tells ..                what is judged of a setting is what the judge J says of it
--   Room ns fo s f list     what visiting setting s asks of what is found so far
--   Seen ..                 what is known of the first m settings from first on
use Rattle.std.specs.Prelude.{◌≡◌, Bool, true, List, ℕ, ◌+◌, ◌≤◌, ◌<◌, length}
use Rattle.std.specs.Int.Bits.{bit_or}
use Rattle.words.specs.Bits.{has}
use Rattle.words.specs.OneBit.{BitOf}
use Rattle.logic.specs.declared.value.Value.{Value}
use Rattle.logic.specs.declared.interpretation.Interpretation.{Interpretation}
use Rattle.logic.specs.Formula.{value_of}
use Rattle.logic.specs.Interpretation.{value_at}
use Rattle.logic.specs.Nodes.{formula_of}
use Rattle.program.specs.Case.{nodes_of}
use Rattle.program.specs.Sound.{sound_formula}
use Rattle.planes.specs.Planes.{column}
use Rattle.explanation.specs.Judge.{Judge}
use Rattle.explanation.specs.Subset.{some_proper}
use Rattle.verdict.specs.declared.counts.Counts.{Counts}
use Rattle.verdict.specs.declared.visit.Found.{Found}

abbrev pub query_under : Interpretation → List ℕ → List ℕ → ℕ → Value
query_under i ns fo q = value_of (value_at i) (formula_of (nodes_of ns fo q))

-- ns has the node count of each formula
pub record Askable (ns fo : List ℕ) (k : Counts) : Type 0 where
  pub atoms : ℕ
  pub asked-few : (q : ℕ) → BitOf (bit_or k.follows k.denied) q → q < 16
  pub asked-sound : (q : ℕ) → BitOf (bit_or k.follows k.denied) q → sound_formula atoms ns fo q ≡ true

-- setting s explains where e says so, and settles to i
pub record Tells (J : Judge) (ns fo : List ℕ) (s : ℕ) (e : Bool) (i : Interpretation) : Type 0 where
  pub explains-is : e ≡ J.explains s
  pub queries-few : J.queries ≤ 16
  pub values_are : (q : ℕ) → query_under i ns fo q ≡ J.value q s

pub record Room (ns fo : List ℕ) (s : ℕ) (f : Found) (list : List ℕ) : Type 0 where
  pub free : f.written ≤ length list
  pub few : f.counts.minimal ≤ s
  pub listed_few : f.written ≤ s
  pub askable : Askable ns fo f.counts

-- e and larger are the lanes that explain and those with a proper subset that explains, t and f the planes settled to
pub record Seen (J : Judge) (cs ns fo : List ℕ) (e larger : ℕ) (t f : List ℕ) (m first : ℕ) : Type 0 where
  pub tells : (j : ℕ) → j < m → Tells J ns fo (first + j) (has e j) (column t f j)
  pub larger_is : (j : ℕ) → j < m → has larger j ≡ some_proper J.explains cs (first + j)
