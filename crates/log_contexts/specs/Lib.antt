pub mod Kept
pub mod Changes
pub mod Contexts
pub mod Lowest
pub mod Alone
pub mod Taking
pub mod Edges
pub mod Laws
