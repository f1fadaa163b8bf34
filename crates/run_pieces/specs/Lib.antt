pub mod Handed
pub mod Pieces
