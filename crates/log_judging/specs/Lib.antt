pub mod Judged
pub mod Entries
