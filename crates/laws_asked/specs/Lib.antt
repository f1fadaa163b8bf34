pub mod Asked
pub mod Travel
