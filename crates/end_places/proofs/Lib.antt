pub mod Numbered
pub mod Outgoing
pub mod Returning
