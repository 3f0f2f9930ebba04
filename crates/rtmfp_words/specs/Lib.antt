pub mod Words
pub mod CommandLine
pub mod Reading
pub mod Items
pub mod ItemReading
pub mod Scanning
pub mod Node
pub mod NodeReading
