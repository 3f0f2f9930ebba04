pub mod Said
pub mod Gathered
pub mod Edges
