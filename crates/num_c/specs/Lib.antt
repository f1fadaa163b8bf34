pub mod Outcomes
pub mod Solution
