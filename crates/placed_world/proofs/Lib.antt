pub mod Answering
pub mod Carriage
