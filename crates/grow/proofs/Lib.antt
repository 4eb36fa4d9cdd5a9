-- The lemmas of the crate, by subject.
pub mod Ahead
pub mod Walks
pub mod Rooms
pub mod Tables
pub mod Covered
pub mod Words
pub mod Renewals
