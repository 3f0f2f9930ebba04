pub mod Play
pub mod Playing
pub mod Generated
pub mod Generating
pub mod Laws
pub mod Journaling
pub mod Moments
pub mod Journaled
