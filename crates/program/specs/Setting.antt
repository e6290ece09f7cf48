-- Settings: numbers in mixed base whose digits say what each cause gets.
-- From: document 01, "Causes, settings, explanations"; document 02, [10] ("A setting's number is read in mixed base,
-- three or two for each cause in atom order, lowest first").
--
--   choice_of tw a     the choice count of the cause a: two among tw (nothing, a fact), otherwise three (also an
--                      assumption)
--   choices_for tw l   a choice count for each cause of l
--   choices_of w       those of the causes w, in atom order
--   product cs         the number of settings with these choice counts
--   digits cs s        the digits of s, lowest first, to the bases cs
--   digit_of l ds a    the digit that belongs to the cause a, 0 where a is none
--   settings_of w      the number of settings of the causes w
--   additions_of w s   what setting s of the causes w adds: digit 0 nothing, 1 a fact, 2 an assumption
use Rattle.std.specs.Prelude.{List, [], ◌∷◌, ℕ, ◌*◌, ◌/◌, ◌%◌, eqb}
use Rattle.words.specs.Choice.{pick}
use Rattle.words.specs.Bits.{has, word}
use Rattle.program.specs.declared.cause.Additions.{Additions}
use Rattle.program.specs.declared.cause.Causes.{Causes}
use Rattle.program.specs.Cause.{atoms_in}

abbrev pub choice_of : ℕ → ℕ → ℕ
choice_of tw a = pick (has tw a) 2 3

unfoldable pub choices_for : ℕ → List ℕ → List ℕ
choices_for tw [] = []
choices_for tw (a ∷ l) = choice_of tw a ∷ choices_for tw l

abbrev pub choices_of : Causes → List ℕ
choices_of w = choices_for w.twofold (atoms_in w.all)

unfoldable pub product : List ℕ → ℕ
product [] = 1
product (c ∷ cs) = c * product cs

unfoldable pub digits : List ℕ → ℕ → List ℕ
digits [] s = []
digits (c ∷ cs) s = s % c ∷ digits cs (s / c)

unfoldable pub digit_of : List ℕ → List ℕ → ℕ → ℕ
digit_of [] ds a = 0
digit_of (b ∷ bs) [] a = 0
digit_of (b ∷ bs) (d ∷ ds) a = let r = digit_of bs ds a in pick (eqb a b) d r

unfoldable pub settings_of : Causes → ℕ
settings_of w = product (choices_of w)

-- the digits of setting s of the causes w
abbrev pub digits_of : Causes → ℕ → List ℕ
digits_of w s = digits (choices_of w) s

unfoldable pub additions_of : Causes → ℕ → Additions
additions_of w s =
    let ds = digits_of w s in
    record {
      facts = word 64 (λ a. eqb (digit_of (atoms_in w.all) ds a) 1);
      assumptions = word 64 (λ a. eqb (digit_of (atoms_in w.all) ds a) 2);
    }
