pub mod Tests
pub mod Happenings
pub mod Edges
