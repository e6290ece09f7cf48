-- Answers: what the program makes of a load's text, or of its refusal.
pub mod Answers
