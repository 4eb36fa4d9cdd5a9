-- The definitions that the contracts of `text` cite, for the readers of those contracts.
pub mod Commands
pub mod Dots
pub mod Fields
pub mod Laws
pub mod Numerals
pub mod Refusals
pub mod Replies
