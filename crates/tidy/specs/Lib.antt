-- Program: what the program writes of its input.
pub mod Program
