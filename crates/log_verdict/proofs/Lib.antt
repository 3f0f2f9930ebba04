pub mod Passing
pub mod Nonces
pub mod Learning
pub mod Ends
pub mod Whole
pub mod Once
pub mod Rows
