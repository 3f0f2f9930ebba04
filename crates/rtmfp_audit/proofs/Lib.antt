pub mod Turns
pub mod Going
pub mod Kept
pub mod Spans
pub mod Found
pub mod Judging
pub mod Ending
