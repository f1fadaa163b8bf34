pub mod Mixed
pub mod Ends
