-- In reading order.
-- Layers: chains of dependencies, least numbers, numberings and rings.
-- Operation: what the operation *layers* answers.
-- Claims: what is claimed beyond the contract.
-- Numbers: what the inner functions promise of numbers.
-- Path: what the inner functions promise of a path and of a ring.
pub mod Layers
pub mod Operation
pub mod Claims
pub mod Numbers
pub mod Path
