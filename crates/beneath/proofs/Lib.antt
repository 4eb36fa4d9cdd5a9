pub mod Together
pub mod Ends
