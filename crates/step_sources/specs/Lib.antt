pub mod Table
pub mod Values
pub mod Given
pub mod Own
