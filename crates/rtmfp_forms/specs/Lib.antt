pub mod Address
pub mod AddressReading
pub mod Options
pub mod OptionReading
pub mod Outgoing
