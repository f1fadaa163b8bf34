pub mod Formed
pub mod Latches
pub mod Volts
pub mod Stays
