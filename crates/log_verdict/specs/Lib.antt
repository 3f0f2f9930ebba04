pub mod Told
pub mod Checks
pub mod Audited
pub mod Laws
pub mod Edges
