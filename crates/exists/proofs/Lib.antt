-- The lemmas of the crate, by subject.
pub mod Adding
pub mod Exists
