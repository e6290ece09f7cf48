-- Laws, in reading order.
-- Formed: the entries of sound tables are well formed.
-- Writable: what is known of a writable case.
-- UsedRows: tables filled with the rows of another.
-- SaidUsed: what holds what a writable case says is the case in its used entries.
-- Masks: the literals on the atoms of two words.
-- FirstOver: the first of some numbers over 11.
-- Fits: a line that may stand behind what was read.
-- FittingLines: lines that may stand one behind the other.
-- KnownNames: lines all of whose names were read before.
-- Bodies: the bodies of clauses and constraints, and readings.
-- AtomLines, EditionLines, ClauseLines, SeenLines, QueryLines, CostLines: the lines of each kind are read as what they
-- are of.
-- WrittenLines: so are the lines of all that is well formed.
-- LiteralCounts: how many literals these lines have.
-- SaidBodies: how long the bodies of a case are.
-- TextRead: reading its text gives what the case says, or is refused with 20.
-- Early: a file within the limit.
-- Theorems: a proof of each claim of specs/Claims.antt.
pub mod Formed
pub mod Writable
pub mod UsedRows
pub mod SaidUsed
pub mod Masks
pub mod FirstOver
pub mod Fits
pub mod FittingLines
pub mod KnownNames
pub mod Bodies
pub mod AtomLines
pub mod EditionLines
pub mod ClauseLines
pub mod SeenLines
pub mod QueryLines
pub mod CostLines
pub mod WrittenLines
pub mod LiteralCounts
pub mod SaidBodies
pub mod TextRead
pub mod Early
pub mod Theorems
