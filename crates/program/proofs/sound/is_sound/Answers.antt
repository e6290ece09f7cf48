-- `program::sound::is_sound` meets its contract: within the limits the tables hold what the counts say. Assumes
-- nothing.
use mathlib.Core.Path.{sym, ◌∙◌}
use Rattle.program.proofs.Soundness.{limits-atoms, clauses-held, constraints-held, formulas-held}
use Rattle.program.proofs.sound.is_sound.Goals as goal

pub invariant_of-clauses : goal.invariant_of-clauses
invariant_of-clauses c =
    let h = clauses-held _ _ _ _ c.requires (sym c.limits_hold.ensures ∙ c.if-not-limits_hold.false) in
    record { few = h.2; held = h.3 }

pub below-atoms-requires : goal.below-atoms-requires
below-atoms-requires c = limits-atoms _ (sym c.limits_hold.ensures ∙ c.if-not-limits_hold.false)

pub constraints_sound-requires : goal.constraints_sound-requires
constraints_sound-requires c =
    let h = constraints-held _ _ _ _ c.requires (sym c.limits_hold.ensures ∙ c.if-not-limits_hold.false) in
    (h.2, h.3)

pub formulas_sound-requires : goal.formulas_sound-requires
formulas_sound-requires c =
    formulas-held _ _ _ _ c.requires (sym c.limits_hold.ensures ∙ c.if-not-limits_hold.false)

pub settings_few-requires : goal.settings_few-requires
settings_few-requires c = limits-atoms _ (sym c.limits_hold.ensures ∙ c.if-not-limits_hold.false)
