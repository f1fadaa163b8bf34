pub mod Joined
pub mod ByPlan
pub mod Bounds
