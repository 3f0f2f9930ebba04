pub mod Exchange
pub mod Stands
pub mod Receiving
pub mod Receivers
pub mod Sending
pub mod Pair
pub mod Related
