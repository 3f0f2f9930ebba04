pub mod Scenes
pub mod Meeting
pub mod Adding
