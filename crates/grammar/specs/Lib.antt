-- In reading order.
-- Line: the forms of a line, and how they are spelled.
-- Bringing: what a line brings.
-- LineOf: the form of a line, read from its tokens.
-- Claims: that the one is the other.
-- Parsing: what parsing a line from a place finds.
pub mod Line
pub mod Bringing
pub mod LineOf
pub mod Claims
pub mod Parsing
