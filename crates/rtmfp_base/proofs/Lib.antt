pub mod Maps
pub mod Lowest
pub mod Weights
pub mod Counts
