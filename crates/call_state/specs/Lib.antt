pub mod Judged
pub mod Sections
pub mod Formed
pub mod Facts
pub mod Kept
pub mod OfRecord
