pub mod Extending
mod Confirms
mod Begun
mod Taking
mod NamedContexts
mod StreamKeys
mod Endings
mod Walking
pub mod Reaching
mod HeldThere
