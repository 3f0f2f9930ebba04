pub mod Roll
pub mod Edges
