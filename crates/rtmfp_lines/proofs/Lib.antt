pub mod Windows
pub mod LfLaws
pub mod LinesLaws
pub mod Streams
pub mod Fronts
pub mod Handled
