-- The ten marked files of document 01, M6 with `avoid`, M4 with prices, M1 and two assumed atoms with edition 2, from
-- their bytes to list, rounds, decided atoms, lowest cost and verdicts: claim 7 of the design, one table of rows and
-- one statement. Proved in proofs/Marking.antt by computation.
-- From: document 01, "Ten marked files"; document 02, [5] (M6), [6] (the decided total), [7] (the lowest cost) and [10]
-- ("M1 with edition 2"; "With x and y assumed, rules o if x and y, o if neither, and o seen, only the empty set is
-- minimal").
--
--   Result        refused with a number at a line, or accepted: the minimal settings, the rounds and the decided atoms
--                 over all, the lowest cost and the setting that has it, a verdict for each query
--   Row           a file's bytes and its result
--   result_of f   the result of the file f by the definitions of reading and of the question
--   marked        the fourteen rows
--   MarkedRows    the result in each of them is that of its file
use Rattle.std.specs.Prelude.{◌≡◌, List, [], ◌∷◌, ◌++◌, map, ℕ}
use Rattle.text.specs.Bytes.{bytes}
use Rattle.verdict.specs.declared.verdict.Verdict.{Verdict}
use Rattle.verdict.specs.declared.verdict.Verdict.TheVariants.{Unexplained, Follows, Denied, Open}
use Rattle.reader.specs.Reading.{Outcome, read_file}
use Rattle.cost.specs.Cheapest.{cheapest_of}
use Rattle.question.specs.Operation.{cost_in}
use Rattle.store.specs.Saying.{Said}
use Rattle.store.specs.Tables.{case_said}
use Rattle.report.specs.Report.{clause_table, price_table, minimals_of, rounds_of, decided_of, lowest_of, verdicts_in}

pub data Result : Type 0 where
  refused : ℕ → ℕ → Result
  accepted : List ℕ → ℕ → ℕ → ℕ → ℕ → List Verdict → Result

pub record Row : Type 0 where
  pub file : List ℕ
  pub result : Result

abbrev pub row : List ℕ → Result → Row
row f r = record { file = f; result = r }

-- the lowest-numbered minimal setting of least cost
abbrev pub cheapest_in : Said → ℕ
cheapest_in st = cheapest_of (cost_in (case_said st) (clause_table st) (price_table st)) (minimals_of st)

-- the result of an outcome of reading
abbrev pub result_from : Outcome → Result
result_from (Outcome.case st) =
    Result.accepted (minimals_of st) (rounds_of st) (decided_of st) (lowest_of st) (cheapest_in st) (verdicts_in st)
result_from (Outcome.refused n k) = Result.refused n k

abbrev pub result_of : List ℕ → Result
result_of f = result_from (read_file f)

abbrev pub dampershut : List ℕ
dampershut = bytes "(if low dampershut (not ab))\n(false ab)\n(seen low)\n(query dampershut)\n"

abbrev pub m1 : Row
m1 = row dampershut (Result.accepted (1 ∷ []) 5 7 0 1 (Follows ∷ []))

abbrev pub m1_overridden : Row
m1_overridden = row (dampershut ++ bytes "(edition 2)\n") (Result.accepted (1 ∷ []) 11 15 0 1 (Follows ∷ []))

abbrev pub both_or_neither : Row
both_or_neither =
    row (bytes "(edition 2)\n(false x)\n(false y)\n(if o x y)\n(if o (not x) (not y))\n(seen o)\n(query o)")
    (Result.accepted (0 ∷ []) 8 12 0 0 (Follows ∷ []))

abbrev pub m2 : Row
m2 = row (bytes "(query a)") (Result.accepted (0 ∷ []) 2 2 0 0 (Open ∷ []))

abbrev pub m3 : Row
m3 = row (bytes "(if p q)\n(if q p)\n(seen p)\n(query q)") (Result.accepted [] 0 0 0 0 (Unexplained ∷ []))

-- the clauses of M4, M5 and M6
abbrev pub shut_or_stopped : List ℕ
shut_or_stopped = bytes "(if low shut (not ab1))\n(if low stopped (not ab2))\n(false ab1)\n(false ab2)\n"

abbrev pub m4 : Row
m4 = row (shut_or_stopped ++ bytes "(seen low)\n(query shut)") (Result.accepted (1 ∷ (3 ∷ [])) 15 36 0 1 (Open ∷ []))

abbrev pub m4_priced : Row
m4_priced =
    row (shut_or_stopped ++ bytes "(seen low)\n(query shut)\n(cost shut 1050 33)\n(cost stopped 1396 0)")
    (Result.accepted (1 ∷ (3 ∷ [])) 15 36 1396 3 (Open ∷ []))

abbrev pub m5 : Row
m5 =
    row (shut_or_stopped ++ bytes "(seen (not low))\n(query (not shut))")
    (Result.accepted (8 ∷ []) 15 36 0 8 (Follows ∷ []))

abbrev pub m6 : Row
m6 =
    row (shut_or_stopped ++ bytes "(seen low)\n(query shut)\n(never stopped)")
    (Result.accepted (7 ∷ []) 15 36 0 7 (Follows ∷ []))

abbrev pub m6_avoid : Row
m6_avoid =
    row (shut_or_stopped ++ bytes "(seen low)\n(query shut)\n(avoid stopped)")
    (Result.accepted (1 ∷ []) 15 36 0 1 (Follows ∷ []))

abbrev pub m7 : Row
m7 = row (bytes "(seen a)\n(seen (not a))\n(query a)") (Result.accepted [] 2 2 0 0 (Unexplained ∷ []))

abbrev pub m8 : Row
m8 = row (bytes "(query (then a a))") (Result.accepted (0 ∷ []) 2 2 0 0 (Follows ∷ []))

abbrev pub m9 : Row
m9 = row (bytes "(if b a (not a))\n(seen (not b))\n(query b)") (Result.accepted (1 ∷ (2 ∷ [])) 4 4 0 1 (Denied ∷ []))

abbrev pub m10 : Row
m10 = row (bytes "(true a)\n(false a)\n(query a)") (Result.accepted (0 ∷ []) 1 1 0 0 (Follows ∷ []))

abbrev pub marked : List Row
marked =
    m1 ∷ m1_overridden ∷ both_or_neither ∷ m2 ∷ m3
    ∷ m4 ∷ m4_priced ∷ m5
    ∷ m6 ∷ m6_avoid ∷ m7 ∷ m8 ∷ m9 ∷ m10 ∷ []

-- the results of rows by the definitions, and those that stand in them
abbrev pub results : List Row → List Result
results l = map (λ (r : Row). result_of r.file) l

abbrev pub expected : List Row → List Result
expected l = map (λ (r : Row). r.result) l

abbrev pub MarkedRows : Type 0
MarkedRows = results marked ≡ expected marked
