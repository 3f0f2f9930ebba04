pub mod Answers
pub mod Standing
pub mod Sessions
pub mod Numbers
pub mod Keyings
pub mod Outs
pub mod Laws
pub mod Edges
