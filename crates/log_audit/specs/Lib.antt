pub mod Places
pub mod Found
pub mod Ends
pub mod Together
