-- What taking a line answers and leaves.
--
--   Took n after r u     r is the refusal with the number n, or where n is 0 what holds what was read after
--   TakenAs ..           the same for whatever was read before, and that nothing past the sizes of the tables changes
--   LineTaken l ..       so for the line l; FormTaken l .. for its checks from 6 on
use Rattle.std.specs.Prelude.{◌≡◌, List, ℕ, Result, IfOk}
use Rattle.refusals.specs.declared.Refusal.{Refusal}
use Rattle.refusals.specs.Refusal.{refused_as}
use Rattle.text.specs.Tokens.{tokens}
use Rattle.store.specs.Lent.{Lent}
use Rattle.store.specs.Saying.{Said}
use Rattle.store.specs.Held.{Kept}
use Rattle.checks.specs.declared.progress.Progress.{Progress}
use Rattle.checks.specs.Progress.{Reached}
use Rattle.checks.specs.Checks.{said_with, form_refusal, line_refusal, said_after}

pub record Took (n : ℕ) (after : Said) (r : Result Progress Refusal) (u : Lent) : Type 0 where
  pub refusal_is : refused_as r ≡ n
  pub reached : IfOk r (λ p. Reached after p u)

-- behind st the line has the refusal of st, and after it there is what was read after st
pub record TakenAs (refusal : Said → ℕ) (after : Said → Said) (p : Progress) (t : Lent) (r : Result Progress Refusal)
    (u : Lent) : Type 0 where
  pub kept : Kept t u
  pub took : (st : Said) → Reached st p t → Took (refusal st) (after st) r u

abbrev pub FormTaken : List ℕ → Progress → Lent → Result Progress Refusal → Lent → Type 0
FormTaken l p t r u = TakenAs (λ st. form_refusal st (tokens l)) (λ st. said_with st (tokens l)) p t r u

abbrev pub LineTaken : List ℕ → Progress → Lent → Result Progress Refusal → Lent → Type 0
LineTaken l p t r u = TakenAs (λ st. line_refusal st l) (λ st. said_after st l) p t r u
