pub mod Volts
pub mod Result
pub mod Meets
