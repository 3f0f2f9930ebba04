pub mod Going
pub mod Histories
pub mod Learning
pub mod Keeping
pub mod Entering
pub mod Judging
pub mod Verdicts
