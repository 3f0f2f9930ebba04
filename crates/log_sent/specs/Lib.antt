pub mod Pieces
pub mod Piece
pub mod Same
pub mod Sent
pub mod Nonces
pub mod Prints
pub mod Edges
