pub mod Given
pub mod Heads
