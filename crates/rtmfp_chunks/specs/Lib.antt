pub mod Fields
pub mod Chunk
pub mod Reading
pub mod FieldReading
pub mod Writing
