pub mod Sizes
pub mod Bounds
pub mod Stays
