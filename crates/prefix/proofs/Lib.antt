-- The lemmas of the crate, by subject.
pub mod Nibbles
pub mod Good
pub mod Edits
pub mod Found
pub mod Map
pub mod Theorems
