pub mod Going
pub mod Handles
pub mod Making
pub mod Owning
