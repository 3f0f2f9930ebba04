pub mod Head
pub mod Spelling
pub mod Walk
pub mod Chunks
pub mod Reading
pub mod Whole
