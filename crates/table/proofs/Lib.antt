-- The lemmas of the crate, by subject.
pub mod Means
pub mod Fresh
pub mod Cells
pub mod Lent
pub mod Following
pub mod Changing
pub mod Refusals
pub mod Theorems
pub mod AnewSteps
pub mod Lasts
