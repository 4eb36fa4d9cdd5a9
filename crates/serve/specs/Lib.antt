-- The definitions that the contracts of `serve` cite, for the readers of those contracts.
pub mod Replies
pub mod Serves
