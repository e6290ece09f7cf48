-- In reading order.
-- Redo: one round in lanes.
-- Begin: the first round in lanes.
pub mod Redo
pub mod Begin
