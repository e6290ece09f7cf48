-- Program: what the program's functions promise of what it writes.
pub mod Program
