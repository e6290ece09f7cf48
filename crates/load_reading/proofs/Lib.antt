-- Laws, in reading order.
-- DrawnClauses: the lines of drawn clauses are read as these clauses.
-- LoadLines: the lines of a load are read as its names, its clauses and its query.
-- Theorems: a proof of each claim of specs/Claims.antt.
pub mod DrawnClauses
pub mod LoadLines
pub mod Theorems
