pub mod Waits
pub mod Depends
pub mod Quiet
