pub mod Words
pub mod Scrambling
