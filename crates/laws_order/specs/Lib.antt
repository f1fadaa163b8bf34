pub mod Same
pub mod Calls
pub mod Diamond
pub mod Orders
pub mod Local
pub mod Ring
