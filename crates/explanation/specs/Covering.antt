-- How the walk finds out whether a proper subset of a setting explains: a setting is covered where a subset of it,
-- itself included, explains; and a proper subset explains exactly where a setting with one digit dropped is covered.
--
--   covers p cs s         s or a proper subset of s passes the test p
--   some_dropped q cs s   some setting that lacks one digit of s passes the test q
--   weight_in tw l a      what the digit of the cause a counts, where l are the causes in rising order and those of tw
--                         have two choices
--   Weights w t           the table t has the weight of each cause of w
--   Decodes w s x         s is a setting of the causes w, and adds x
use Rattle.std.specs.Prelude.{◌≡◌, Bool, false, not, ◌&&◌, ◌||◌, List, [], ◌∷◌, ℕ, ◌+◌, ◌*◌, ◌/◌, ◌%◌, ◌<◌, eqb, get_or}
use Rattle.words.specs.Choice.{pick}
use Rattle.words.specs.OneBit.{BitOf}
use Rattle.program.specs.declared.cause.Additions.{Additions}
use Rattle.program.specs.declared.cause.Causes.{Causes}
use Rattle.program.specs.Cause.{atoms_in}
use Rattle.program.specs.Setting.{choice_of, settings_of, additions_of}
use Rattle.explanation.specs.Subset.{some_proper}

unfoldable pub covers : (ℕ → Bool) → List ℕ → ℕ → Bool
covers p cs s = p s || some_proper p cs s

-- the lowest digit is dropped, or it stays and one of the others is dropped
unfoldable pub some_dropped : (ℕ → Bool) → List ℕ → ℕ → Bool
some_dropped q [] s = false
some_dropped q (c ∷ cs) s =
    (not (eqb (s % c) 0) && q (c * (s / c))) || some_dropped (λ t. q (s % c + c * t)) cs (s / c)

unfoldable pub weight_in : ℕ → List ℕ → ℕ → ℕ
weight_in tw [] a = 0
weight_in tw (b ∷ l) a = pick (eqb a b) 1 (choice_of tw b * weight_in tw l a)

abbrev pub Weights : Causes → List ℕ → Type 0
Weights w t = (a : ℕ) → BitOf w.all a → get_or t a 0 ≡ weight_in w.twofold (atoms_in w.all) a

pub record Decodes (w : Causes) (s : ℕ) (x : Additions) : Type 0 where
  pub below : s < settings_of w
  pub adds : x ≡ additions_of w s
