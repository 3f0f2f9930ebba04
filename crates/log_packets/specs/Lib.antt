pub mod Secrets
pub mod Opening
pub mod Asked
pub mod Laws
pub mod Edges
