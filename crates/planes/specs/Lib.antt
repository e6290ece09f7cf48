-- In reading order.
-- Planes: the column of a lane, and values in lanes.
-- Fill: the planes of additions, and planes that are the same in each lane.
-- Opening: the planes of an opening.
-- Word: the words of an atom after the first round.
pub mod Planes
pub mod Fill
pub mod Opening
pub mod Word
