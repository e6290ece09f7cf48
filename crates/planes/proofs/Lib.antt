-- Choosing: tests in another order, and a bit that is kept or chosen anew.
-- Columns: the interpretation in a lane.
-- Joining: the literals of a body, in lanes.
-- Ruling: the rules of a head, in lanes.
-- Words: the words of one atom.
-- Filling: the planes of additions, and those that are the same in each lane.
pub mod Choosing
pub mod Columns
pub mod Joining
pub mod Ruling
pub mod Words
pub mod Filling
