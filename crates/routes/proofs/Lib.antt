pub mod Slots
pub mod Lists
pub mod Turns
pub mod Order
pub mod Moves
pub mod Keeps
