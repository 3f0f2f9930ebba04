pub mod Asked
pub mod Standing
pub mod Ages
pub mod Ending
