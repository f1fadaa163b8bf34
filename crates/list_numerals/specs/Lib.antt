pub mod Eights
pub mod Magnitude
