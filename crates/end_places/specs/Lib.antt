pub mod Seen
pub mod Carrying
pub mod Edges
