pub mod Calls
pub mod Answered
pub mod Keeps
pub mod Kinds
pub mod StreamKeys
pub mod Reached
pub mod Holding
pub mod Forgetting
