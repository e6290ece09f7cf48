-- Costs: a larger set costs at least as much; the cost of the set in a lane, summed price by price.
-- Least: the cheapest of a list and one setting more, or settings more than one that costs nothing.
-- Lanes: which lanes of a block are minimal, and their settings, the lowest first.
-- Choosing: the minimal settings of a block taken one by one.
pub mod Costs
pub mod Least
pub mod Lanes
pub mod Choosing
