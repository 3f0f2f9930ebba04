pub mod Bytes
pub mod Values
pub mod Spellings
pub mod Groups
pub mod Shortest
pub mod Tails
pub mod Fields
pub mod Decoded
