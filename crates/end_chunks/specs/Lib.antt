pub mod Judging
pub mod Steps
pub mod FlowChunks
pub mod Pieces
