pub mod Orders
pub mod Heard
pub mod Lines
pub mod Ends
