-- The definitions of the program: which lines it can read.
pub mod Reads
