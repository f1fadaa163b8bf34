pub mod Seen
pub mod Laws
pub mod Stands
pub mod After
pub mod Named
