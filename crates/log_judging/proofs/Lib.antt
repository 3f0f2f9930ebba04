pub mod Entering
pub mod Beginning
pub mod Histories
pub mod Counting
