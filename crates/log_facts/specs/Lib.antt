pub mod Coming
pub mod Edges
pub mod Lines
