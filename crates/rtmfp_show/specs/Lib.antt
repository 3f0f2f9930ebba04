pub mod ChunkText
pub mod DataText
pub mod ShowText
pub mod ShowLine
pub mod Adding
pub mod Laws
