mod Constants
mod Keyed
mod Lingering
mod Reasons
mod Told
mod FlowTaken
mod Found
pub mod Introduced
pub mod Relocating
mod Ways
mod Fragments
mod Pieced
mod Datagrams
