-- What every operation on a case asks first.
--
--   checked full sound   refuses a table that isn't of full size, then a case that isn't sound
use Rattle.std.specs.Prelude.{Bool, true, false, Result, Ok, Err, ⊤}
use Rattle.refusals.specs.declared.Refusal.{Refusal}

abbrev pub checked : Bool → Bool → Result ⊤ Refusal
checked false sound = Err Refusal.ShortTable
checked true false = Err Refusal.Unsound
checked true true = Ok tt
