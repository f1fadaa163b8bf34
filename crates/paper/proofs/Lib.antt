pub mod Apart
pub mod Examples
pub mod Cases
pub mod Kept
pub mod Total
pub mod Places
