-- The definitions that the contracts of `trials` cite, for the readers of those contracts.
pub mod Chance
pub mod Counts
pub mod Ends
pub mod Compare
