-- Refusal: the number of each refusal.
pub mod Refusal
