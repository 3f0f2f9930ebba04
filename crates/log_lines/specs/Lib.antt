pub mod Decisions
pub mod Lines
pub mod Edges
