-- Laws, in reading order.
-- Names: the tests of a names table.
-- WritableCases: the tests of a case that is to be written.
-- WritableAtoms: what is known of an atom of a writable case.
-- Ways: things written one behind another.
-- Bits: things written for each atom of a word.
-- Literals: how a literal and a body are written.
-- Parts: the tokens of a formula by the node that it begins with.
-- Formulas: how a formula is written.
-- LineTexts: how a line is written.
-- Growing: lines written one entry of a table after another.
-- Rows: lists of at most so many entries, of each of which something holds.
-- LineSizes: how long a line is.
-- Editions: the edition lines of a case.
-- CaseRoom: the text of a writable case has room.
-- Fitting: what a case that fits gives to the steps of writing it.
-- CaseTexts: the lines of a case, kind by kind.
-- Costs: the costs of a table of prices.
-- Decoded: a formula with the names of its atoms.
-- Refusals: the refusals of writing, and the text where there is none.
-- Unrefused: what is known of a case that writing does not refuse.
pub mod Names
pub mod WritableCases
pub mod WritableAtoms
pub mod Ways
pub mod Bits
pub mod Literals
pub mod Parts
pub mod Formulas
pub mod LineTexts
pub mod Growing
pub mod Rows
pub mod LineSizes
pub mod Editions
pub mod CaseRoom
pub mod Fitting
pub mod CaseTexts
pub mod Costs
pub mod Decoded
pub mod Refusals
pub mod Unrefused
