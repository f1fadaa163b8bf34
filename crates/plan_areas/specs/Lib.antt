pub mod Marks
pub mod Joining
pub mod Numbered
