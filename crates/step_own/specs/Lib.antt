pub mod Ends
pub mod EndLegs
pub mod EndSizes
pub mod Branches
pub mod Laid
pub mod Paper
pub mod Pass
