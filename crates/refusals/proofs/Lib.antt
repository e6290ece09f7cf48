-- Numbers: laws of the numbers of refusals.
pub mod Numbers
