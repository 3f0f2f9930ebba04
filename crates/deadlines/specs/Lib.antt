pub mod Deadlines
pub mod Inside
pub mod Halves
pub mod Edges
