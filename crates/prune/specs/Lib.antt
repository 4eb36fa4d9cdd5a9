-- The definitions of the crate: a row of which some nodes are free, what holds of it, and the walk that finds them.
pub mod Free
pub mod Hints
pub mod Laws
pub mod Walk
