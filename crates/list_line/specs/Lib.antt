pub mod Quads
pub mod Heads
pub mod Texts
