-- Laws of the numbers of refusals. Assumes nothing.
use Prim.Native.Nat.{◌<◌}
use native.Mathlib.Omega.{arith}
use Rattle.refusals.specs.declared.Refusal.{Refusal}
use Rattle.refusals.specs.Refusal.{number_of}

-- a refusal has a number
pub number_some : (r : Refusal) → 0 < number_of r
number_some Refusal.ShortTable = omega arith
number_some Refusal.LongFile = omega arith
number_some Refusal.LongLine = omega arith
number_some Refusal.StrangeByte = omega arith
number_some Refusal.NoForm = omega arith
number_some Refusal.LongName = omega arith
number_some Refusal.DeepFormula = omega arith
number_some Refusal.ManyNames = omega arith
number_some Refusal.ManyRules = omega arith
number_some Refusal.ManyQueries = omega arith
number_some Refusal.NoQuery = omega arith
number_some Refusal.ManySettings = omega arith
number_some Refusal.Unsound = omega arith
number_some Refusal.NoSetting = omega arith
number_some Refusal.ShortWork = omega arith
number_some Refusal.HighPrice = omega arith
number_some Refusal.SecondCost = omega arith
number_some Refusal.LongText = omega arith
number_some Refusal.ShortOutput = omega arith
number_some Refusal.ManyLiterals = omega arith
number_some Refusal.SecondEdition = omega arith
number_some Refusal.NoLoad = omega arith
number_some Refusal.ShortLoadOutput = omega arith
