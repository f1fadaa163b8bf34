pub mod Numbers
pub mod Lines
pub mod Texts
pub mod Reader
pub mod Networks
pub mod Written
