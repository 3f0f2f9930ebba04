pub mod HexTexts
pub mod Listed
pub mod Pushes
