-- Writing: what writing a text promises.
pub mod Writing
