-- The definition of the crate: the statement that every good list has a trie.
pub mod Exists
