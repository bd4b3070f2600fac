pub mod Records
pub mod Readings
pub mod Theorems
