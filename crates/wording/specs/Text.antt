-- The text of an answer, and of a refusal.
-- From: document 01, "The program `causes`"; document 02, [6] ("a line `(decided total)` after the rounds"), [7] ("ends
-- with a line `(cheapest C)`").
--
--   lines_of f l                the lines that f gives for the numbers l, one behind another
--   verdict_word v              the word of the verdict with the number v
--   verdict_lines vs            the lines of the verdicts with the numbers vs
--   abducibles name l ds        (true N) or (false N) for each cause of l whose digit in ds isn't 0, in atom order
--   cause_line name w s         the line of setting s of the causes w
--   cause_lines name w l        the lines of the settings l
--   cheapest_lines m c          the line of the lowest cost c among m minimal explanations, if there are any
--   answer_text name w vs t l   verdicts vs, rounds, decided atoms, minimal explanations and lowest cost t, and of the
--                               minimal ones the settings l listed
--   refusal_text n k            the refusal with the number n at line k
use Rattle.std.specs.Prelude.{List, [], ◌∷◌, ◌++◌, ℕ, zero, suc, length}
use Rattle.program.specs.declared.cause.Causes.{Causes}
use Rattle.program.specs.Cause.{atoms_in}
use Rattle.program.specs.Setting.{digits_of}
use Rattle.text.specs.Bytes.{bytes}
use Rattle.output.specs.Decimal.{decimal}
use Rattle.output.specs.Forms.{form, line}
use Rattle.wording.specs.declared.Totals.{Totals}

unfoldable pub lines_of : (ℕ → List ℕ) → List ℕ → List ℕ
lines_of f [] = []
lines_of f (x ∷ l) = f x ++ lines_of f l

-- 0 unexplained, 1 follows, 2 denied, 3 open
abbrev pub verdict_word : ℕ → List ℕ
verdict_word zero = bytes "unexplained"
verdict_word (suc zero) = bytes "follows"
verdict_word (suc (suc zero)) = bytes "denied"
verdict_word (suc (suc (suc v))) = bytes "open"

-- "(verdict v)"
unfoldable pub verdict_line : ℕ → List ℕ
verdict_line v = line (bytes "verdict") (verdict_word v ∷ [])

abbrev pub verdict_lines : List ℕ → List ℕ
verdict_lines vs = lines_of verdict_line vs

-- "(rounds n)"
unfoldable pub rounds_line : ℕ → List ℕ
rounds_line n = line (bytes "rounds") (decimal n ∷ [])

-- "(decided n)"
unfoldable pub decided_line : ℕ → List ℕ
decided_line n = line (bytes "decided") (decimal n ∷ [])

-- "(minimal m w)"
unfoldable pub minimal_line : ℕ → ℕ → List ℕ
minimal_line m w = line (bytes "minimal") (decimal m ∷ (decimal w ∷ []))

-- what a digit adds for the cause named w, in front of the rest: nothing, "(true w)" or "(false w)"
abbrev pub with_abducible : ℕ → List ℕ → List (List ℕ) → List (List ℕ)
with_abducible zero w ps = ps
with_abducible (suc zero) w ps = form (bytes "true") (w ∷ []) ∷ ps
with_abducible (suc (suc d)) w ps = form (bytes "false") (w ∷ []) ∷ ps

-- name gives the name of each atom
unfoldable pub abducibles : (ℕ → List ℕ) → List ℕ → List ℕ → List (List ℕ)
abducibles name [] ds = []
abducibles name (a ∷ l) [] = []
abducibles name (a ∷ l) (d ∷ ds) = with_abducible d (name a) (abducibles name l ds)

-- "(cause (true N) (false N) ..)"
unfoldable pub cause_line : (ℕ → List ℕ) → Causes → ℕ → List ℕ
cause_line name w s = line (bytes "cause") (abducibles name (atoms_in w.all) (digits_of w s))

abbrev pub cause_lines : (ℕ → List ℕ) → Causes → List ℕ → List ℕ
cause_lines name w l = lines_of (cause_line name w) l

-- "(cheapest n)"
unfoldable pub cheapest_line : ℕ → List ℕ
cheapest_line n = line (bytes "cheapest") (decimal n ∷ [])

-- none where nothing explains: the verdicts are then unexplained
unfoldable pub cheapest_lines : ℕ → ℕ → List ℕ
cheapest_lines zero c = []
cheapest_lines (suc m) c = cheapest_line c

unfoldable pub answer_text : (ℕ → List ℕ) → Causes → List ℕ → Totals → List ℕ → List ℕ
answer_text name w vs t l =
    verdict_lines vs
    ++ (rounds_line t.rounds
    ++ (decided_line t.decided
    ++ (minimal_line t.minimal (length l) ++ (cause_lines name w l ++ cheapest_lines t.minimal t.cost))))

-- "(refused n k)"
unfoldable pub refusal_text : ℕ → ℕ → List ℕ
refusal_text n k = line (bytes "refused") (decimal n ∷ (decimal k ∷ []))
