pub mod Deeds
pub mod Shows
pub mod Goes
pub mod Pieces
pub mod Laws
pub mod Edges
