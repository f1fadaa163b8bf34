pub mod Factored
pub mod Along
pub mod Factors
pub mod Serving
pub mod Substituted
pub mod Blocks
pub mod Positions
pub mod Proposed
