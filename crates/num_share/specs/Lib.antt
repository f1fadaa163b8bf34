pub mod Share
pub mod Mixed
