pub mod Judged
pub mod Replayed
pub mod Laws
pub mod Refused
pub mod Admitted
