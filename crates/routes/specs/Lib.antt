pub mod Rows
pub mod Searches
pub mod Gaps
pub mod Changes
pub mod Bests
