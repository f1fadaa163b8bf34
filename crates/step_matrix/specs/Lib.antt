pub mod Exact
pub mod Placed
pub mod Joined
pub mod Cleared
pub mod Block
