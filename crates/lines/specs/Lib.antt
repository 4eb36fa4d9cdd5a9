-- The definitions that the contracts of `lines` cite, over those of `text`, for the readers of those contracts.
pub mod Commands
pub mod Laws
pub mod Lines
