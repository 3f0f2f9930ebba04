mod Rows
mod Rooms
mod Changing
mod SealedParts
mod OwnDue
mod Rounds
mod Called
mod Taken
mod Staying
mod Behind
pub mod Late
mod LateKept
pub mod Gathered
