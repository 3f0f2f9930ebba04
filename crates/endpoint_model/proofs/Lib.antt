pub mod Parts
pub mod Steps
pub mod FlowChunks
pub mod Members
pub mod Ids
pub mod Reading
pub mod Apart
pub mod Naming
