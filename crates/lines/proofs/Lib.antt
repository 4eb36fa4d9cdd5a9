-- The lemmas of `lines`, by subject.
pub mod Backs
pub mod Examples
