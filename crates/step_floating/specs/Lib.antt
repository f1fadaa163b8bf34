pub mod Search
pub mod Joins
pub mod Marks
pub mod Found
pub mod Answer
pub mod Free
pub mod Local
pub mod Visits
