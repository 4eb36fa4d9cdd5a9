-- The definitions of the crate: a prefix on its way down, its cells as sixteen bits, and a row lent to be written.
pub mod Ways
pub mod Cells
pub mod Lent
