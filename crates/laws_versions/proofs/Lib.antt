pub mod Meets
pub mod Wrong
