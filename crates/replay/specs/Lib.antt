pub mod Fits
pub mod Takes
pub mod Starts
pub mod Theorems
