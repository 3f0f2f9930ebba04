pub mod Calls
pub mod Things
pub mod Underway
pub mod Telling
pub mod Keeping
pub mod Watching
pub mod Beginning
