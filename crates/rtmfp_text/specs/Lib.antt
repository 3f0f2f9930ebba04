pub mod Words
pub mod AddressText
pub mod KindText
pub mod Names
