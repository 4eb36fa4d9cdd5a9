-- The lemmas that the proofs of `serve` share, by subject.
pub mod Lines
pub mod Writes
pub mod Stays
pub mod Examples
