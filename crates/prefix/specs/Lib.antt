-- The definitions of the crate: keys in a row, routes and their answers, a list as a map, and the laws.
pub mod Words
pub mod Routes
pub mod Map
pub mod Laws
