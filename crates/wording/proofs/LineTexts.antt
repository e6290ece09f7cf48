-- The lines of a report, and what a digit adds, as the pieces that the code writes. Assumes nothing.
use mathlib.Core.Path.{◌≡◌, refl, sym, ap}
use mathlib.Core.List.{List, [], ◌∷◌, ◌++◌}
use Prim.Native.Nat.{ℕ, zero, suc}
use Rattle.program.specs.declared.cause.Causes.{Causes}
use Rattle.program.specs.Cause.{atoms_in}
use Rattle.program.specs.Setting.{digits_of}
use Rattle.text.specs.Bytes.{bytes}
use Rattle.output.specs.Decimal.{decimal}
use Rattle.output.specs.Forms.{spaced, form}
use Rattle.wording.specs.Text.{verdict_word, verdict_line, rounds_line, decided_line, minimal_line, refusal_text}
use Rattle.wording.specs.Text.{with_abducible, abducibles, cause_line, cheapest_line, cheapest_lines}
use Rattle.output.proofs.FormTexts.{line_end, line-parts, line-one, line-two}
use Rattle.output.proofs.FormTexts.{spaced_nil, spaced_cons, spaced-form}

abbrev pub verdict_opening : List ℕ
verdict_opening = bytes "(verdict "

abbrev pub rounds_opening : List ℕ
rounds_opening = bytes "(rounds "

abbrev pub decided_opening : List ℕ
decided_opening = bytes "(decided "

abbrev pub minimal_opening : List ℕ
minimal_opening = bytes "(minimal "

abbrev pub cheapest_opening : List ℕ
cheapest_opening = bytes "(cheapest "

abbrev pub refused_opening : List ℕ
refused_opening = bytes "(refused "

abbrev pub cause_opening : List ℕ
cause_opening = bytes "(cause"

abbrev pub fact_opening : List ℕ
fact_opening = bytes " (true "

abbrev pub assumption_opening : List ℕ
assumption_opening = bytes " (false "

-- one number, and two, behind an opening
abbrev pub number_text : List ℕ → ℕ → List ℕ
number_text opening n = opening ++ (decimal n ++ line_end)

abbrev pub pair_text : List ℕ → ℕ → ℕ → List ℕ
pair_text opening x y = opening ++ (decimal x ++ (bytes " " ++ (decimal y ++ line_end)))

pub verdict_text : (v : ℕ) → verdict_line v ≡ verdict_opening ++ (verdict_word v ++ line_end)
unfolding verdict_line
verdict_text v = line-one (bytes "verdict") (verdict_word v)

pub open_word : (v : ℕ) → (v ≡ 0 → ⊥) → (v ≡ 1 → ⊥) → (v ≡ 2 → ⊥) → verdict_word v ≡ bytes "open"
open_word zero p q r = absurd (p refl)
open_word (suc zero) p q r = absurd (q refl)
open_word (suc (suc zero)) p q r = absurd (r refl)
open_word (suc (suc (suc v))) p q r = refl

pub rounds-text : (n : ℕ) → rounds_line n ≡ number_text rounds_opening n
unfolding rounds_line
rounds-text n = line-one (bytes "rounds") (decimal n)

pub decided-text : (n : ℕ) → decided_line n ≡ number_text decided_opening n
unfolding decided_line
decided-text n = line-one (bytes "decided") (decimal n)

pub minimal-text : (m w : ℕ) → minimal_line m w ≡ pair_text minimal_opening m w
unfolding minimal_line
minimal-text m w = line-two (bytes "minimal") (decimal m) (decimal w)

pub cheapest_none : (c : ℕ) → cheapest_lines 0 c ≡ []
unfolding cheapest_lines
cheapest_none c = refl

pub cheapest_text : (m c : ℕ) → (m ≡ 0 → ⊥) → cheapest_lines m c ≡ number_text cheapest_opening c
unfolding cheapest_lines cheapest_line
cheapest_text zero c p = absurd (p refl)
cheapest_text (suc m) c p = line-one (bytes "cheapest") (decimal c)

pub refusal-text : (n k : ℕ) → refusal_text n k ≡ pair_text refused_opening n k
unfolding refusal_text
refusal-text n k = line-two (bytes "refused") (decimal n) (decimal k)

pub cause_text : (name : ℕ → List ℕ) (w : Causes) (s : ℕ)
    → cause_line name w s ≡ cause_opening ++ (spaced (abducibles name (atoms_in w.all) (digits_of w s)) ++ line_end)
unfolding cause_line
cause_text name w s = line-parts (bytes "cause") (abducibles name (atoms_in w.all) (digits_of w s))

-- ---- what a digit adds for the cause named w
pub fact-text : (w : List ℕ) → spaced (with_abducible 1 w []) ≡ fact_opening ++ (w ++ bytes ")")
fact-text w = spaced-form (bytes "true") w

pub assumption-text : (d : ℕ) (w : List ℕ) → (d ≡ 0 → ⊥) → (d ≡ 1 → ⊥)
    → spaced (with_abducible d w []) ≡ assumption_opening ++ (w ++ bytes ")")
assumption-text zero w p q = absurd (p refl)
assumption-text (suc zero) w p q = absurd (q refl)
assumption-text (suc (suc d)) w p q = spaced-form (bytes "false") w

pub abducible_text : (d : ℕ) (w : List ℕ) (ps : List (List ℕ))
    → spaced (with_abducible d w ps) ≡ spaced (with_abducible d w []) ++ spaced ps
abducible_text zero w ps = sym (ap (λ (l : List ℕ). l ++ spaced ps) spaced_nil)
abducible_text (suc zero) w ps = spaced_cons (form (bytes "true") (w ∷ [])) ps
abducible_text (suc (suc d)) w ps = spaced_cons (form (bytes "false") (w ∷ [])) ps
