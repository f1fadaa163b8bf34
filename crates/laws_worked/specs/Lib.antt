pub mod Breakers
pub mod Peaked
pub mod Supply
