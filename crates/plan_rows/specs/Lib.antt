pub mod ByKind
pub mod Planned
pub mod Decoded
pub mod Laws
pub mod Switching
