pub mod Underway
pub mod Laws
pub mod Watch
pub mod Edges
