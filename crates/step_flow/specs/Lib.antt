pub mod Flown
pub mod Past
pub mod Beyond
