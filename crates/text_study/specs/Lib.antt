pub mod Held
pub mod Laid
pub mod Texts
pub mod Rows
pub mod States
pub mod Steps
