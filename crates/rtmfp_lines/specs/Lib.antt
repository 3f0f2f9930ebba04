pub mod Pending
pub mod Lines
pub mod Outside
pub mod Reading
pub mod Status
pub mod Table
pub mod Taken
