-- One walk over all settings in rising order, for any judge and any list of choice counts.
-- From: document 01, "The question"; document 02, [6] ("the question the sum over all settings").
--
--   byte_of J cs s        0 setting s doesn't explain, 1 it explains and isn't minimal, 2 it is minimal
--   bytes_below J cs n    the bytes of the settings below n
--   minimals_below J cs n the minimal settings below n, in rising order
--   rounds_below J n      the sum of the round counts of the settings below n
--   decided_below J n     the sum of the decided atoms of the settings below n
--   verdict_of J q l      the verdict on query q over the list l of minimal settings
--   verdicts_of J l       the verdicts on all queries, in file order
--   verdict_number v      document 01's number of a verdict
use Rattle.std.specs.Prelude.{Bool, true, false, ◌&&◌, List, [], ◌∷◌, ◌++◌, ℕ, zero, suc, length}
use Rattle.words.specs.Below.{sum}
use Rattle.words.specs.Lists.{list_of}
use Rattle.logic.specs.declared.value.Value.{Value}
use Rattle.logic.specs.Value.{is_true, is_false}
use Rattle.verdict.specs.declared.verdict.Verdict.{Verdict}
use Rattle.verdict.specs.declared.verdict.Verdict.TheVariants.{Unexplained, Follows, Denied, Open}
use Rattle.explanation.specs.Judge.{Judge}
use Rattle.explanation.specs.Subset.{minimal}

-- the byte of a setting that explains, or not, and is minimal, or not
abbrev pub mark : Bool → Bool → ℕ
mark false m = 0
mark true false = 1
mark true true = 2

unfoldable pub byte_of : Judge → List ℕ → ℕ → ℕ
byte_of J cs s = mark (J.explains s) (minimal J cs s)

unfoldable pub bytes_below : Judge → List ℕ → ℕ → List ℕ
bytes_below J cs zero = []
bytes_below J cs (suc s) = bytes_below J cs s ++ (byte_of J cs s ∷ [])

abbrev pub only_if : Bool → ℕ → List ℕ
only_if true s = s ∷ []
only_if false s = []

unfoldable pub minimals_below : Judge → List ℕ → ℕ → List ℕ
minimals_below J cs zero = []
minimals_below J cs (suc s) = minimals_below J cs s ++ only_if (minimal J cs s) s

abbrev pub rounds_below : Judge → ℕ → ℕ
rounds_below J n = sum n J.rounds

abbrev pub decided_below : Judge → ℕ → ℕ
decided_below J n = sum n J.decided

-- the value of query q passes a test under each of the settings
unfoldable pub passes_in_all : (Value → Bool) → Judge → ℕ → List ℕ → Bool
passes_in_all test J q [] = true
passes_in_all test J q (s ∷ l) = test (J.value q s) && passes_in_all test J q l

abbrev pub true_in_all : Judge → ℕ → List ℕ → Bool
true_in_all J q l = passes_in_all is_true J q l

abbrev pub false_in_all : Judge → ℕ → List ℕ → Bool
false_in_all J q l = passes_in_all is_false J q l

-- of m minimal settings, under each of which the query is true, or not, and false, or not
abbrev pub verdict_by : ℕ → Bool → Bool → Verdict
verdict_by zero t f = Unexplained
verdict_by (suc m) true f = Follows
verdict_by (suc m) false true = Denied
verdict_by (suc m) false false = Open

unfoldable pub verdict_of : Judge → ℕ → List ℕ → Verdict
verdict_of J q l = verdict_by (length l) (true_in_all J q l) (false_in_all J q l)

unfoldable pub verdicts_of : Judge → List ℕ → List Verdict
verdicts_of J l = list_of J.queries (λ q. verdict_of J q l)

abbrev pub verdict_number : Verdict → ℕ
verdict_number Unexplained = 0
verdict_number Follows = 1
verdict_number Denied = 2
verdict_number Open = 3
