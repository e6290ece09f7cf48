-- The number of each refusal.
-- From: document 01, "What each operation refuses"; document 02, [1], [7] (16, 17), [8] (18, 19), [9] (20), [10] (21),
-- [11] (22, 23).
--
--   number_of r      the number of the refusal r
--   refused_as r     the number of what the result r refuses with, 0 where it is an answer
use Rattle.std.specs.Prelude.{ℕ, Result, Ok, Err}
use Rattle.refusals.specs.declared.Refusal.{Refusal}

abbrev pub number_of : Refusal → ℕ
number_of Refusal.ShortTable = 1
number_of Refusal.LongFile = 2
number_of Refusal.LongLine = 3
number_of Refusal.StrangeByte = 4
number_of Refusal.NoForm = 5
number_of Refusal.LongName = 6
number_of Refusal.DeepFormula = 7
number_of Refusal.ManyNames = 8
number_of Refusal.ManyRules = 9
number_of Refusal.ManyQueries = 10
number_of Refusal.NoQuery = 11
number_of Refusal.ManySettings = 12
number_of Refusal.Unsound = 13
number_of Refusal.NoSetting = 14
number_of Refusal.ShortWork = 15
number_of Refusal.HighPrice = 16
number_of Refusal.SecondCost = 17
number_of Refusal.LongText = 18
number_of Refusal.ShortOutput = 19
number_of Refusal.ManyLiterals = 20
number_of Refusal.SecondEdition = 21
number_of Refusal.NoLoad = 22
number_of Refusal.ShortLoadOutput = 23

abbrev pub refused_as : {A : Type 0} → Result A Refusal → ℕ
refused_as (Ok a) = 0
refused_as (Err r) = number_of r
