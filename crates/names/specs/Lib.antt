-- In reading order.
-- Names: names in the order of first appearance, and the bytes of their table.
-- Row: the rows of a table, the row of a name, and names put into rows.
-- Compared: a word compared with an entry.
-- Held: a table that holds names.
-- Claims: what is claimed beyond the contracts.
pub mod Names
pub mod Row
pub mod Compared
pub mod Held
pub mod Claims
