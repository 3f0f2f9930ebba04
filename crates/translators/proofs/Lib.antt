pub mod Choices
pub mod Using
pub mod Stems
pub mod Index
pub mod Alike
pub mod Called
pub mod Undo
