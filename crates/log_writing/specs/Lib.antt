pub mod Written
pub mod Texts
pub mod Told
pub mod Rows
