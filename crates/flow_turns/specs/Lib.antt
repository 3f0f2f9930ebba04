pub mod Turns
pub mod Busy
