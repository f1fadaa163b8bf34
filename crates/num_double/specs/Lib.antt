pub mod Exact
pub mod Halves
