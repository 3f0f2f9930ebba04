pub mod Arrivals
pub mod Contexts
pub mod Arrived
pub mod Calls
pub mod Startup
pub mod Laws
pub mod Edges
