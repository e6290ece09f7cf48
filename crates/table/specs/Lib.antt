-- Filled: what a lent table holds when its first entries are filled.
pub mod Filled
