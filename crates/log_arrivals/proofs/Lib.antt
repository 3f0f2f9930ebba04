pub mod Found
pub mod Arriving
pub mod Honesty
pub mod Sessions
pub mod Firsts
pub mod Startups
pub mod OfCalls
pub mod Telling
