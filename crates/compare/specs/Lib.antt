-- Program: what the program writes.
pub mod Program
