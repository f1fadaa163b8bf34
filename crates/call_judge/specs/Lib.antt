pub mod Cases
pub mod Given
pub mod Judging
