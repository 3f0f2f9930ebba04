pub mod Directory
pub mod Happenings
pub mod Index
pub mod Edges
