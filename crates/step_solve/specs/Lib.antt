pub mod Rights
pub mod Settling
