-- `program::cause::causes_in` meets its contract: edition 1 has the atoms that are no head, and edition 2 also the
-- heads of assumptions alone. Assumes nothing.
use mathlib.Core.Path.{ap₂, ◌∙◌}
use Prim.Native.Nat.{ℕ, ◌-◌, ◌^◌}
use lib.Bits.{bit_and}
use Rattle.program.specs.Cause.{causes_among}
use Rattle.program.proofs.Causes.{causes_plain, causes_overridden}
use Rattle.program.proofs.cause.causes_in.Goals as goal

pub returns-then-edition-ne2 : goal.returns-then-edition-ne2
returns-then-edition-ne2 c =
    causes_plain _ _ _ _ c.if-edition-ne2.true (c.unheaded-free.ensures ∙ ap₂ causes_among c.below.ensures c.requires.2)

pub returns : goal.returns
returns c =
    causes_overridden _ _ _ _ c.if-edition-ne2.false
    (c.unheaded-free.ensures ∙ ap₂ causes_among c.below.ensures c.requires.2)
    (ap₂ (λ (h f : ℕ). bit_and h (2 ^ 64 - 1 - f)) c.requires.2 c.firm_heads.ensures)
