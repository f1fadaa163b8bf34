pub mod Nets
pub mod Travels
pub mod Places
