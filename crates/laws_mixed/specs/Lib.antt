pub mod Made
pub mod Mixed
pub mod Worked
