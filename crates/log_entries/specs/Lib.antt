pub mod Scenes
pub mod Found
