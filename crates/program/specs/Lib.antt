-- In reading order.
-- Case: the sizes of the lent tables, and their entries.
-- Clauses: a clause of a table, as it is handed out.
-- Program: clauses, the program that a clause table holds, and the clauses that a set adds.
-- Cause: the atoms that head no clause.
-- Setting: choice counts, the digits of a setting, and what it adds.
-- Set: the sets of the possible causes, settings among them.
-- Sound: the phrases of soundness, each a computed test.
-- Digit: what one digit of a setting adds.
-- Claims: what is claimed beyond the contracts.
pub mod Case
pub mod Clauses
pub mod Program
pub mod Cause
pub mod Setting
pub mod Set
pub mod Sound
pub mod Digit
pub mod Claims
