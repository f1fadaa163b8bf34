pub mod Sofar
pub mod Begun
pub mod Answered
