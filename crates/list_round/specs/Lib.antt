pub mod Round
pub mod Passed
