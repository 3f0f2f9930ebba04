pub mod Pieces
pub mod Cuts
pub mod Held
pub mod Answers
pub mod Happenings
pub mod Edges
