pub mod Branches
pub mod Exact
pub mod Step
