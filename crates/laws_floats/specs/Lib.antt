pub mod HasPath
pub mod Floats
