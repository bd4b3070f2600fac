pub mod Equalities
pub mod Searches
pub mod Shifts
