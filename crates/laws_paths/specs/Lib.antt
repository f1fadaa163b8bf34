pub mod Paths
pub mod Rounds
pub mod Reached
pub mod Meaning
