pub mod Conducted
pub mod Paper
