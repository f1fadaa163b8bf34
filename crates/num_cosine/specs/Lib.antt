pub mod Quarter
pub mod Rows
pub mod Cosine
