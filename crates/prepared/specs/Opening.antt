-- The first round, with nothing added and with a set's additions.
--
--   no_additions      the set that adds nothing
--   opening_of cl n   the first round of the first n clauses where nothing is added, and their heads
--   opened o x        the interpretation that the opening o makes with the facts and assumptions of x
use Rattle.std.specs.Prelude.{List, ℕ, ◌-◌, ◌^◌}
use Rattle.std.specs.Int.Bits.{bit_and, bit_or}
use Rattle.logic.specs.declared.interpretation.Interpretation.{Interpretation}
use Rattle.logic.specs.Interpretation.{nothing}
use Rattle.program.specs.declared.cause.Additions.{Additions}
use Rattle.program.specs.Program.{program_with, heads_of}
use Rattle.settle.specs.Step.{step}
use Rattle.prepared.specs.declared.opening.Opening.{Opening}

abbrev pub no_additions : Additions
no_additions = record { facts = 0; assumptions = 0 }

unfoldable pub opening_of : List ℕ → ℕ → Opening
opening_of cl n =
    let i = step (program_with cl n no_additions) nothing in
    record { trues = i.trues; falses = i.falses; heads = heads_of cl n }

-- a head keeps what the opening says; an assumption makes false what is no head, and a fact makes true
abbrev pub opened : Opening → Additions → Interpretation
opened o x = record {
  trues = bit_or o.trues x.facts;
  falses = bit_and (bit_or o.falses (bit_and x.assumptions (2 ^ 64 - 1 - o.heads))) (2 ^ 64 - 1 - x.facts);
}
