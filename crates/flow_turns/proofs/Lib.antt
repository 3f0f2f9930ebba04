pub mod Turning
pub mod Busying
