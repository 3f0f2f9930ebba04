pub mod Nodes
pub mod Meeting
pub mod Steps
