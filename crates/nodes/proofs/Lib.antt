-- Nodes: the places of the forms, and a formula measured by its operands.
pub mod Nodes
