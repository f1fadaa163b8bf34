pub mod Range
pub mod Sources
