-- The lemmas of the program, by subject.
pub mod Narrows
