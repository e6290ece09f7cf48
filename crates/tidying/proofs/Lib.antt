-- Laws, in reading order.
-- Written: the text of a case, and what is shown of it.
-- Answers: what is shown of an accepted file.
-- Priced: the prices of an accepted file.
-- Writable: the case of an accepted file can be written.
-- Theorems: a proof of each claim of specs/Claims.antt.
pub mod Written
pub mod Answers
pub mod Priced
pub mod Writable
pub mod Theorems
