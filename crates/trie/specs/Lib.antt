-- The definitions of the crate: nodes in a row and what a lookup finds there, when a row is a map's trie, places against one prefix, and the theorems.
pub mod Nodes
pub mod Shape
pub mod Places
pub mod Theorems
