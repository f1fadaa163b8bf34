pub mod Grown
pub mod Listed
pub mod Ends
pub mod Flags
pub mod Nodes
pub mod Sources
