pub mod Doing
pub mod Script
pub mod Turning
pub mod Run
pub mod Laws
pub mod Commands
