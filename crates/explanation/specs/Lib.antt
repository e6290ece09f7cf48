-- In reading order.
-- Explanation: what explains the readings, with constraints of two kinds.
-- Claims: constraints of both kinds by their heads.
-- Judge: what is known of each setting: whether it explains, its rounds, the query's value.
-- Subset: subsets of a setting, and minimal explanations.
-- Covering: when a setting is covered, and how that tells whether a proper subset explains.
-- Row: the row of bits that says which settings are covered.
pub mod Explanation
pub mod Claims
pub mod Judge
pub mod Subset
pub mod Covering
pub mod Row
