pub mod Grammar
pub mod Fields
pub mod Readings
pub mod Rows
