pub mod Certificates
pub mod Discriminators
pub mod Stored
pub mod Order
pub mod ServiceNames
pub mod Targets
