pub mod Generations
pub mod KeyMaps
pub mod Named
pub mod OnceGiven
pub mod Placing
pub mod Seated
pub mod Slots
pub mod Walked
