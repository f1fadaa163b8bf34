pub mod Legs
pub mod Search
pub mod Floats
