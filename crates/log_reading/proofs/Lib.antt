pub mod Grown
pub mod Sound
