pub mod Sizes
pub mod Components
pub mod Offsets
pub mod Standing
pub mod Addresses
