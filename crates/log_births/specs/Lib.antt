pub mod Offers
pub mod Rooms
pub mod Ways
pub mod Births
pub mod Edges
