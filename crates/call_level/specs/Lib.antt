pub mod Cases
pub mod Level
