pub mod Walking
pub mod Heads
pub mod Bodies
pub mod Readings
pub mod Flags
