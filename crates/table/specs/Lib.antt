-- The definitions of the crate: a table's row and when it is right, and what its entries answer.
pub mod Right
pub mod Answers
pub mod Words
pub mod Follows
pub mod Changes
pub mod Entries
pub mod Laws
pub mod Anew
