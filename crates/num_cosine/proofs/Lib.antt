pub mod Entries
pub mod Most
