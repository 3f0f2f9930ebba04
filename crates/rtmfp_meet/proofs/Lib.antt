pub mod Pushed
pub mod Written
pub mod Going
pub mod Stepping
pub mod Runs
