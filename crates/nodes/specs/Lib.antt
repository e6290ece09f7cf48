-- Node: which numbers are which nodes.
pub mod Node
