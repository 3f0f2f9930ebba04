pub mod Above
pub mod Padded
