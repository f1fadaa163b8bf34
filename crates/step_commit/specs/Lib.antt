pub mod Reached
pub mod Ends
pub mod Asked
pub mod Sent
pub mod Put
pub mod Nodes
pub mod Latches
pub mod Paper
