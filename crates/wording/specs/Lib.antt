-- Text: the text of an answer, and of a refusal.
pub mod Text
