pub mod Parts
pub mod Walks
pub mod Lines
