pub mod Vlu
pub mod Decoding
pub mod Reading
