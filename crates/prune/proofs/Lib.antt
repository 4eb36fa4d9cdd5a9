-- The lemmas of the crate, by subject.
pub mod Holes
pub mod Walks
pub mod Cuts
pub mod Between
