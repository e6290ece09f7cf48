-- In reading order.
-- Pen: what writing tokens leaves in a lent output.
-- Page: what writing lines leaves in it.
pub mod Pen
pub mod Page
