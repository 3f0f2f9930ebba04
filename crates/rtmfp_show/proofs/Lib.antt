pub mod ChunkLines
pub mod Payloads
pub mod Texts
pub mod Lists
pub mod Naming
pub mod Pieces
