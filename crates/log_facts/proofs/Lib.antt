pub mod Arriving
pub mod Answering
pub mod Hearing
pub mod Joining
