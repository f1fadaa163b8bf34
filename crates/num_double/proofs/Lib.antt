pub mod Doubled
pub mod Tests
