-- Walking: what a walk is given, and where it stands.
pub mod Walking
