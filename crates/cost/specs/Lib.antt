-- In reading order.
-- Cost: what a set of causes costs.
-- Cheapest: the cheapest setting of a list.
-- Block: the minimal settings of a block.
pub mod Cost
pub mod Cheapest
pub mod Block
