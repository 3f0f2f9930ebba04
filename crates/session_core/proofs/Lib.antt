pub mod Hears
pub mod Keyed
pub mod Seals
pub mod Meets
pub mod Courses
pub mod Folds
pub mod Deadlines
