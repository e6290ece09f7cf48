-- Which refusal is due where one setting is settled, and the count of the settings. Assumes nothing.
use mathlib.Core.Path.{◌≡◌, sym, ap, ◌∙◌}
use mathlib.Core.Bool.{true}
use mathlib.Core.List.{List, [], ◌∷◌}
use Prim.Native.Nat.{ℕ, ◌≤◌, ◌<◌, min}
use lib.Dec.{ltb}
use borrow.Author.Tests.{lt-ltb, le-ltb}
use Rattle.std.specs.Prelude.{Err}
use Rattle.words.specs.Choice.{Check, check}
use Rattle.words.proofs.Checks.{first-failed-here, first-failed-behind}
use Rattle.refusals.specs.declared.Refusal.{Refusal}
use Rattle.refusals.specs.Refusal.{number_of}
use Rattle.program.specs.declared.case.Case.{Case}
use Rattle.program.specs.Case.{tables_full}
use Rattle.program.specs.declared.cause.Causes.{Causes}
use Rattle.program.specs.Cause.{causes_in, causes_of}
use Rattle.program.specs.Setting.{settings_of}
use Rattle.program.specs.Sound.{sound}
use Rattle.program.proofs.Causes.{causes-of}
use Rattle.program.proofs.Counting.{capped_is}
use Rattle.program.proofs.Soundness.{sound-settings}
use Rattle.settle.specs.Check.{checked}
use Rattle.settle.specs.Operation.{settle_refusal}
use Rattle.settle.proofs.Asking.{refused_first}

module _ (c : Case) (cl co fo : List ℕ) (s : ℕ) where
  -- the last check
  abbrev pub setting_check : List Check
  setting_check = check 14 (ltb s (settings_of (causes_of c cl))) ∷ []

  pub refusal_first : (e : Refusal) → checked (tables_full cl co fo) (sound c cl co fo) ≡ Err e
      → number_of e ≡ settle_refusal c cl co fo s
  unfolding settle_refusal
  refusal_first e = refused_first _ _ setting_check e

  module _ (e : (tables_full cl co fo ≡ true) × (sound c cl co fo ≡ true)) where
    pub refusal-past : settings_of (causes_of c cl) ≤ s → settle_refusal c cl co fo s ≡ 14
    unfolding settle_refusal
    refusal-past l =
        first-failed-behind 1 (check 13 (sound c cl co fo) ∷ setting_check) e.0
        ∙ first-failed-behind 13 setting_check e.1
        ∙ first-failed-here 14 [] (le-ltb s (settings_of (causes_of c cl)) l)

    pub refusal-none : s < settings_of (causes_of c cl) → settle_refusal c cl co fo s ≡ 0
    unfolding settle_refusal
    refusal-none l =
        first-failed-behind 1 (check 13 (sound c cl co fo) ∷ setting_check) e.0
        ∙ first-failed-behind 13 setting_check e.1
        ∙ first-failed-behind 14 [] (lt-ltb s (settings_of (causes_of c cl)) l)

    -- a count of the settings that stops at 59,050 is the number of them
    pub settings_counted : {w : Causes} {n : ℕ} → w ≡ causes_in c.edition c.atoms cl c.clauses
        → n ≡ min (settings_of w) 59050 → n ≡ settings_of (causes_of c cl)
    settings_counted q h =
        capped_is _ _ (sound-settings c cl co fo e.1)
        (h ∙ ap (λ (w : Causes). min (settings_of w) 59050) (q ∙ sym (causes-of c cl)))
