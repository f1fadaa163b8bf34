pub mod Outcomes
pub mod Beyond
pub mod Trying
