mod Acking
mod Chunks
mod DueItems
mod Endings
mod Falling
mod Gathered
mod Near
mod Opening
mod Refusals
mod Tested
pub mod Confirms
pub mod Ticks
