-- The definitions that the contracts of `capi` cite, for the readers of those contracts.
pub mod Codes
