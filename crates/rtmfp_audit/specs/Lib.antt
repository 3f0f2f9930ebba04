pub mod Texts
pub mod Logs
pub mod Lines
pub mod Audits
pub mod Turning
