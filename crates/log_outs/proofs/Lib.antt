pub mod Chunks
pub mod Ways
pub mod Numbering
pub mod Responders
pub mod Initiators
pub mod Lines
pub mod Carrying
