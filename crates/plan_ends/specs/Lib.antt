pub mod Kinds
pub mod Own
