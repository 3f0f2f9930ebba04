pub mod Groups
pub mod Stored
pub mod NamedContext
pub mod Steps
