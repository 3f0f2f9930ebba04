pub mod Addresses
pub mod Pieces
pub mod Lists
pub mod Respelling
pub mod Places
