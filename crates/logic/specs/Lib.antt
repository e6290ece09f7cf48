-- In reading order.
-- Value: the order of values and the connectives.
-- Formula: formulas as trees, their values, the body of a clause as a formula.
-- Nodes: formulas in prefix order; exactly one formula.
-- Interpretation: the value of an atom in two words, the number of decided atoms and of newly decided ones.
-- Order: an interpretation contained in another.
-- Assigned: the values of the atoms with that of one replaced.
-- Evaluation: what reading one formula from the nodes finds.
-- Claims: what is claimed beyond the contracts.
pub mod Value
pub mod Formula
pub mod Nodes
pub mod Interpretation
pub mod Order
pub mod Assigned
pub mod Evaluation
pub mod Claims
