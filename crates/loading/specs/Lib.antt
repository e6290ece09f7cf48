-- In reading order.
-- Draws: numbers that follow from a state.
-- Load: the lines of a load.
-- Operation: what generating answers and leaves in the output.
-- Claims: what is claimed beyond the contract.
pub mod Draws
pub mod Load
pub mod Operation
pub mod Claims
