pub mod Wires
pub mod Leaving
pub mod Shares
pub mod Sums
pub mod Free
pub mod Written
pub mod Side
