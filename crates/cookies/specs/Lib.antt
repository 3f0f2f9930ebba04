pub mod Cookie
pub mod Edges
