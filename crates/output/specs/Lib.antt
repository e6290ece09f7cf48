-- In reading order.
-- Decimal: numbers in decimal.
-- Claims: what is claimed of them.
-- Forms: lines of a report, one form each.
-- Writing: what writing to a lent output leaves in it.
-- Showing: what an operation that writes a text answers and leaves in the output.
pub mod Decimal
pub mod Claims
pub mod Forms
pub mod Writing
pub mod Showing
