pub mod Generating
pub mod Places
