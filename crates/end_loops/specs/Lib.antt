pub mod DueItems
pub mod Pending
pub mod Walks
