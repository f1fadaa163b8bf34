pub mod Counting
pub mod Owns
pub mod Areas
pub mod Laying
pub mod Kept
