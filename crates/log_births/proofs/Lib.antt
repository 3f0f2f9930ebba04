pub mod Tests
pub mod Offering
pub mod Letting
pub mod Bearing
pub mod Making
