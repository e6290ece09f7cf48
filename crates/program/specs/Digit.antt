-- What one digit of a setting adds, as the method that adds it promises.
use Rattle.std.specs.Prelude.{ℕ, zero, suc, ◌^◌}
use Rattle.std.specs.Int.Bits.{bit_or}
use Rattle.program.specs.declared.cause.Additions.{Additions}

-- x with atom a added as digit d says: 1 adds a fact, 2 an assumption, any other nothing
abbrev pub with_digit : Additions → ℕ → ℕ → Additions
with_digit x a zero = x
with_digit x a (suc zero) = record { facts = bit_or x.facts (2 ^ a); assumptions = x.assumptions }
with_digit x a (suc (suc zero)) = record { facts = x.facts; assumptions = bit_or x.assumptions (2 ^ a) }
with_digit x a (suc (suc (suc d))) = x
