pub mod Packets
pub mod Readings
pub mod Read
pub mod Offsets
