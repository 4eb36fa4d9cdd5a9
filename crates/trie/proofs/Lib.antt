-- The lemmas of the crate, by subject.
pub mod Steps
pub mod Descent
pub mod Shapes
pub mod Changes
pub mod Places
pub mod Updates
pub mod Rows
pub mod Room
pub mod Theorems
pub mod Worked
